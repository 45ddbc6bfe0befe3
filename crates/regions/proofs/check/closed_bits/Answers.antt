-- The bits of the regions passed are those of the column so far.
use Rattle.std.proofs.Common.{◌≡◌, cond, get_or, refl, sym, rules, tests, bit_or}
use Rattle.std.proofs.lemmas.Iterator.{YieldsList-from_slice, YieldsList-from_zip}
use Rattle.std.proofs.lemmas.Iterator.Consumers.{fold_from_yields_List}
use Rattle.std.specs.List.{zip, fold}
use Rattle.rules.specs.Numbers.{region_room}
use Rattle.rules.specs.Words.{column}
use Rattle.rules.specs.Urgency.{is_open, closed_holders}
use Rattle.rules.proofs.Folds.{fold_zip}
use Rattle.regions.specs.Bits.{or_all}
use Rattle.regions.proofs.Bits.{bits_more}
use Rattle.regions.proofs.check.closed_bits.Goals as goal

pub returns : goal.returns
unfolding closed_holders column or_all
returns c =
    let t = c.args.f.now in
    let folds : c.fold.result ≡ fold (λ bits z. bit_or bits (cond (is_open z.0) 0 z.1)) 0 (zip t.opened t.holder) =
    fold_from_yields_List _ (λ bits z. bit_or bits (cond (is_open z.0) 0 z.1)) 0 _ c.fold.ensures.ran
    (YieldsList-from_zip (YieldsList-from_slice t.opened cc) (YieldsList-from_slice t.holder cc)) (λ a x b q h. search (rules, tests)) in
    fold_zip _ (λ n. or_all 0 (column n (λ r. cond (is_open (get_or t.opened r 0)) 0 (get_or t.holder r 0)))) region_room t.opened t.holder (search rules) (search rules) folds refl
    (λ i l. sym (bits_more 0 (column i (λ r. cond (is_open (get_or t.opened r 0)) 0 (get_or t.holder r 0))) _))
