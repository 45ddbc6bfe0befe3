-- One timer's rule of validity, for code that has read the state of the task at the owner's number modulo the room for tasks, and tests
-- owners against the smaller of the count and that room.
use Rattle.std.specs.Prelude.{ℕ, Bool, cond, not, [], ◌∷◌, ◌==◌, nat_le, nat_lt}
use Rattle.rules.specs.declared.Timer.{Timer}
use Rattle.rules.specs.Numbers.{event_end, tick_end, longest_delay}
use Rattle.rules.specs.Words.{is_zero, all}
use Rattle.rules.specs.Tasks.{stopped}
use Rattle.rules.specs.Timers.{ahead, is_armed}

unfoldable pub timer_fits : ℕ → ℕ → ℕ → Timer → Bool
timer_fits owners state ticks r =
    cond (is_armed r)
    (all (nat_lt r.owner owners
    ∷ not (state == stopped)
    ∷ nat_lt r.event event_end
    ∷ nat_lt r.date tick_end
    ∷ nat_lt 0 (ahead r.date ticks)
    ∷ nat_le (ahead r.date ticks) longest_delay
    ∷ []))
    (all (is_zero r.armed ∷ is_zero r.owner ∷ is_zero r.event ∷ is_zero r.date ∷ []))
