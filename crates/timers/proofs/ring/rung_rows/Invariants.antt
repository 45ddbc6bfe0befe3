-- What the columns are now and what is still to be rung make the whole, and at the end of the room that is all of them.
use Rattle.std.proofs.Common.{◌≡◌, ◌≤◌, drop}
use Rattle.rules.specs.Numbers.{timer_room}
use Rattle.timers.specs.Signals.{front_rung}
use Rattle.timers.proofs.ring.rung_rows.Given as goal

abbrev pub invariant-loop-r : goal.invariant-loop-r
invariant-loop-r l = (l.r-index ≤ timer_room) × (front_rung l.ticks (drop l.r-index l.r-items) l.f ≡ front_rung l.ticks l.r-items l.initial.f)
