-- The flag so far is the test of every task passed, from the count on; with a count past the room there is none.
use Rattle.std.proofs.Common.{◌≤◌, max, ◌≡◌, ◌&&◌, get_or}
use Rattle.rules.specs.Numbers.{task_room}
use Rattle.rules.specs.Words.{is_zero, past}
use Rattle.tasks.proofs.check.rest_zero.Given as goal

abbrev pub invariant-loop-i : goal.invariant-loop-i
invariant-loop-i l = (l.f.tasks ≤ l.i) × (l.i ≤ max l.f.tasks task_room) × (l.ok ≡ past l.f.tasks l.i (λ j. is_zero (get_or l.f.priority j 0) && is_zero (get_or l.f.state j 0)))
