-- The fold asks every region.
use Rattle.std.proofs.Common.{◌≡◌, false, not, ◌&&◌, ◌||◌, refl, rules, tests}
use Rattle.std.proofs.lemmas.Iterator.{YieldsList-from_slice, YieldsList-from_zip}
use Rattle.std.proofs.lemmas.Iterator.Consumers.{fold_from_yields_List}
use Rattle.std.specs.List.{zip, fold}
use Rattle.rules.specs.Numbers.{region_room}
use Rattle.rules.specs.Words.{below, names}
use Rattle.rules.specs.Urgency.{is_open, holding, holds_open}
use Rattle.rules.proofs.Folds.{fold_zip}
use Rattle.regions.proofs.Holders.{one_more}
use Rattle.regions.proofs.holder.holds_open.Goals as goal

pub returns : goal.returns
unfolding holds_open below
returns c =
    let t = c.args.f.now in
    let folds : c.fold.result ≡ fold (λ holds z. holds || (is_open z.0 && names z.1 c.args.task)) false (zip t.opened t.holder) =
    fold_from_yields_List _ (λ holds z. holds || (is_open z.0 && names z.1 c.args.task)) false _ c.fold.ensures.ran
    (YieldsList-from_zip (YieldsList-from_slice t.opened cc) (YieldsList-from_slice t.holder cc)) (λ a x b q h. search (rules, tests)) in
    fold_zip _ (λ n. not (below n (λ r. not (holding t.opened t.holder c.args.task r)))) region_room t.opened t.holder (search rules) (search rules) folds refl
    (λ i l. one_more (below i (λ r. not (holding t.opened t.holder c.args.task r))) _)
