-- Each task's test is the definition's.
use Rattle.std.proofs.Common.{◌-◌, get_or, rules}
use Rattle.rules.specs.Numbers.{task_room}
use Rattle.rules.specs.Checks.{await_right, awaits_fit}
use Rattle.tables.proofs.Every.{below_from_fold}
use Rattle.urgency.proofs.check.awaits_right.Goals as goal

pub returns : goal.returns
unfolding awaits_fit
returns c =
    let t = c.args.f.now in
    below_from_fold (λ i. await_right t.tasks i (get_or t.state i 0) (get_or t.awaits i 0) (get_or t.opened (get_or t.awaits i 0 - 1) 0) (get_or t.holder (get_or t.awaits i 0 - 1) 0))
    task_room c.fold.ensures.ran (search rules) (λ a x b q h. search rules)
