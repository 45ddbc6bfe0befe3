-- Each way is followed to its end.
use Rattle.std.proofs.Common.{rules}
use Rattle.rules.specs.Numbers.{task_room}
use Rattle.rules.specs.Circles.{ends, no_circle}
use Rattle.rules.proofs.Folds.{below_from_all}
use Rattle.urgency.proofs.circles.each_ends.Goals as goal

pub returns : goal.returns
unfolding no_circle
returns c =
    let t = c.args.f.now in
    below_from_all (ends t.awaits t.holder task_room) task_room c.all.ensures.ran (search rules) (λ x b q h. search rules)
