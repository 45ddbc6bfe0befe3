-- The timers passed are as they should be, and at the end of the room that is all of them.
use Rattle.std.proofs.Common.{◌≡◌, ◌≤◌}
use Rattle.rules.specs.Numbers.{timer_room}
use Rattle.rules.specs.Timers.{disarmed}
use Rattle.timers.proofs.Mapped.{mapped}
use Rattle.timers.proofs.arm.disarmed_all.Given as goal

abbrev pub invariant-loop-r : goal.invariant-loop-r
invariant-loop-r l = (l.r-index ≤ timer_room) × (l.r-items ≡ mapped (disarmed l.task) l.r-index l.fn.timers)
