-- The fold tests every region.
use Rattle.std.proofs.Common.{rules, tests}
use Rattle.std.proofs.lemmas.Iterator.{YieldsList-from_slice, YieldsList-from_zip}
use Rattle.rules.specs.Numbers.{region_room}
use Rattle.rules.specs.Checks.{open_holder_fits, open_holders_fit}
use Rattle.rules.proofs.Folds.{below_zip}
use Rattle.regions.proofs.check.open_holders_right.Goals as goal

pub returns : goal.returns
unfolding open_holders_fit
returns c =
    let t = c.args.f.now in
    below_zip _ (open_holder_fits t.tasks t.state) region_room t.opened t.holder (search rules) (search rules) c.fold.ensures.ran
    (YieldsList-from_zip (YieldsList-from_slice t.opened cc) (YieldsList-from_slice t.holder cc)) (λ a x b q h. search (rules, tests))
