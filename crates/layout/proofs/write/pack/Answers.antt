-- The table in its parts.
use Rattle.std.proofs.Common.{rules, ◌≡◌, refl, sym, ap, subst, ◌∙◌}
use Rattle.rules.specs.declared.Table.{Table}
use Rattle.tables.specs.declared.front.Front.{Front}
use Rattle.tables.specs.declared.front.Store.{Store}
use Rattle.tables.specs.Fronts.{whole, front_of, store_of}
use Rattle.layout.specs.Layout.{packed}
use Rattle.layout.proofs.Sizes.{Sized, length_mapped}
use Rattle.layout.proofs.Writing.{whole_put_lem}
use Rattle.layout.proofs.write.pack.Goals as goal

whole_is : (t : Table) (f : Front) (s : Store) → f ≡ front_of t → s ≡ store_of t → whole f s.element s.criterion ≡ t
whole_is t f s e d = rw (e, d) refl

pub returns : goal.returns
returns c =
    let sized : Sized c.args.t = search (rules, length_mapped) in
    let same = whole_is c.args.t _ _ c.front_of.ensures c.store_of-store.ensures in
    c.pack_whole.ensures ∙ whole_put_lem _ _ _ _ (subst Sized (sym same) sized) c.requires ∙ ap packed same
