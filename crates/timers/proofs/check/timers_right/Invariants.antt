-- Every timer passed is right, a way out has one that is not, and at the end of the room that is all of them.
use Rattle.std.proofs.Common.{◌≡◌, ◌≤◌, true, take}
use Rattle.rules.specs.Words.{every}
use Rattle.rules.specs.Numbers.{timer_room}
use Rattle.rules.specs.Validity.{timer_right}
use Rattle.timers.proofs.check.timers_right.Given as goal

abbrev pub invariant-loop-r : goal.invariant-loop-r
invariant-loop-r l = (l.r-index ≤ timer_room) × (true ≡ every (timer_right l.f.tasks l.f.state l.f.ticks) (take l.r-index l.r-items))
