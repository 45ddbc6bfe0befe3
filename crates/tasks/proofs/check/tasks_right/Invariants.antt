-- The flag so far is the test of every task passed; with what is 0 past the count it is the whole test.
use Rattle.std.proofs.Common.{◌≤◌, ◌≡◌, get_or}
use Rattle.rules.specs.Numbers.{task_room}
use Rattle.rules.specs.Words.{below}
use Rattle.rules.specs.Checks.{row_right}
use Rattle.tasks.proofs.check.tasks_right.Given as goal

abbrev pub invariant-loop-i : goal.invariant-loop-i
invariant-loop-i l =
    (l.i ≤ task_room)
    × (l.ok ≡ below l.i (λ j. row_right (get_or l.f.priority j 0) (get_or l.f.state j 0) (get_or l.f.arrived j 0) (get_or l.f.list j 0) (get_or l.f.operator j 0)))
