-- Timers: each has an armed flag of its own, a task, an event and a date; and the tick counter, which "starts again at 0".
use Rattle.std.specs.Prelude.{ℕ, ◌+◌, ◌-◌, ◌%◌, Bool, cond, not, ◌&&◌, eqb}
use Rattle.rules.specs.declared.Timer.{Timer}
use Rattle.rules.specs.Numbers.{tick_end}

-- the counter so many ticks on
unfoldable pub later : ℕ → ℕ → ℕ
later ticks n = (ticks + n) % tick_end

-- how many ticks a date lies ahead of the counter
unfoldable pub ahead : ℕ → ℕ → ℕ
ahead date ticks = (date + (tick_end - ticks)) % tick_end

-- "an idle timer is all 0"
abbrev pub idle : Timer
idle = record { armed = 0; owner = 0; event = 0; date = 0 }

abbrev pub is_armed : Timer → Bool
is_armed r = eqb r.armed 1

-- ARM: "for the caller; arming again replaces"
abbrev pub as_armed : ℕ → ℕ → ℕ → Timer → Timer
as_armed caller event date r = record { armed = 1; owner = caller; event = event; date = date }

-- armed by, or by another than, this task
abbrev pub armed_by : ℕ → Timer → Bool
armed_by task r = is_armed r && eqb r.owner task

abbrev pub armed_by_other : ℕ → Timer → Bool
armed_by_other task r = is_armed r && not (eqb r.owner task)

-- DISARM, and "STOP and END disarm the task's timers"
abbrev pub disarmed : ℕ → Timer → Timer
disarmed task r = cond (armed_by task r) idle r

-- "a timer is due when the counter, so wrapped, reaches its date"
abbrev pub is_due : ℕ → Timer → Bool
is_due ticks r = is_armed r && eqb r.date ticks

-- "It then signals its task's event and is disarmed"
abbrev pub rung : ℕ → Timer → Timer
rung ticks r = cond (is_due ticks r) idle r
