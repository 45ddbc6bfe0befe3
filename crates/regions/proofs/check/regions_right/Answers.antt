-- The fold tests every region with its number.
use Rattle.std.proofs.Common.{ℕ, ◌≡◌, ◌&&◌, true, get_or, refl, rules, tests}
use Rattle.std.proofs.lemmas.Iterator.{YieldsList-from_slice, YieldsList-from_zip}
use Rattle.std.proofs.lemmas.Iterator.Consumers.{YieldsList-from_enumerate, fold_from_yields_List}
use Rattle.std.specs.List.{zip, fold, enumerate_from}
use Rattle.rules.specs.Numbers.{region_room}
use Rattle.rules.specs.Words.{below}
use Rattle.rules.specs.Checks.{region_fits, regions_right}
use Rattle.rules.proofs.Folds.{fold_numbered}
use Rattle.regions.proofs.check.regions_right.Goals as goal

pub returns : goal.returns
unfolding regions_right below
returns c =
    let t = c.args.f.now in
    let fits = λ (i : ℕ) (mark : ℕ) (h : ℕ). region_fits t.regions c.args.v i mark h in
    let folds : c.fold.result ≡ fold (λ ok z. ok && region_fits t.regions c.args.v z.0 z.1.0 z.1.1) true (enumerate_from 0 (zip t.opened t.holder)) =
    fold_from_yields_List _ (λ ok z. ok && region_fits t.regions c.args.v z.0 z.1.0 z.1.1) true _ c.fold.ensures.ran
    (YieldsList-from_enumerate (YieldsList-from_zip (YieldsList-from_slice t.opened cc) (YieldsList-from_slice t.holder cc)) cc)
    (λ a x b q h. search (rules, tests)) in
    fold_numbered _ (λ n. below n (λ j. region_fits t.regions c.args.v j (get_or t.opened j 0) (get_or t.holder j 0))) region_room t.opened t.holder
    (search rules) (search rules) folds refl (λ i l. refl)
