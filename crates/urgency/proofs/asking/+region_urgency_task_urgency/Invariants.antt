-- A region asks its tasks with one less left, and a task its regions with as many: the measure is twice what is left, and 1 more for a task.
-- In both loops the number so far is the smallest urgency of those passed.
use Rattle.std.proofs.Common.{◌≡◌, ◌+◌, ◌-◌, ◌≤◌}
use Rattle.rules.specs.Numbers.{task_room, region_room}
use Rattle.rules.specs.Election.{smallest}
use Rattle.rules.specs.Urgency.{awaiting, holding, region_urgency, task_urgency}
use Rattle.urgency.proofs.asking.+region_urgency_task_urgency.Given as goal

abbrev pub decreases-region_urgency : goal.decreases-region_urgency
decreases-region_urgency l = l.left + l.left

abbrev pub decreases-task_urgency : goal.decreases-task_urgency
decreases-task_urgency l = l.left + l.left + 1

abbrev pub invariant-region_urgency-loop-i : goal.invariant-region_urgency-loop-i
invariant-region_urgency-loop-i l =
    (l.i ≤ task_room)
    × (l.least ≡ smallest l.i (awaiting l.f.awaits l.r) (task_urgency l.f.priority l.f.awaits l.f.opened l.f.holder (l.left - 1)))

abbrev pub invariant-task_urgency-loop-r : goal.invariant-task_urgency-loop-r
invariant-task_urgency-loop-r l =
    (l.r ≤ region_room)
    × (l.least ≡ smallest l.r (holding l.f.opened l.f.holder l.i) (region_urgency l.f.priority l.f.awaits l.f.opened l.f.holder l.left))
