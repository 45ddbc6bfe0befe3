-- The fold tests every region.
use Rattle.std.proofs.Common.{rules, tests}
use Rattle.std.proofs.lemmas.Iterator.{YieldsList-from_slice, YieldsList-from_zip}
use Rattle.rules.specs.Numbers.{region_room}
use Rattle.rules.specs.Validity.{entries_fit}
use Rattle.rules.specs.Checks.{entries_everywhere}
use Rattle.rules.proofs.Folds.{below_zip}
use Rattle.regions.proofs.check.entries_right.Goals as goal

pub returns : goal.returns
unfolding entries_everywhere
returns c =
    let t = c.args.f.now in
    below_zip _ entries_fit region_room t.holder t.entries (search rules) (search rules) c.fold.ensures.ran
    (YieldsList-from_zip (YieldsList-from_slice t.holder cc) (YieldsList-from_slice t.entries cc)) (λ a x b q h. search (rules, tests))
