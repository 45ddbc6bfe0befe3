-- ARM and DISARM as one change of one timer, for the code's shape.
use Rattle.std.specs.Prelude.{ℕ, ◌%◌, cond, ◌||◌, List, map, ◌==◌}
use Rattle.rules.specs.declared.Timer.{Timer}
use Rattle.rules.specs.declared.Call.{Call}
use Rattle.rules.specs.Numbers.{STOP, END, ARM}
use Rattle.rules.specs.Timers.{later, as_armed, disarmed}

-- a timer after ARM or DISARM; an event that exists fits, so that the remainder changes nothing
unfoldable pub timer_after : Call → ℕ → Timer → Timer
timer_after c ticks r =
    cond (c.operation == ARM) (as_armed c.caller (c.b % 256) (later ticks c.c) r) (disarmed c.caller r)

-- all timers after an operation on a task: STOP and END disarm those that it armed
abbrev pub timers_left : ℕ → ℕ → List Timer → List Timer
timers_left operation task timers = cond (operation == STOP || operation == END) (map (disarmed task) timers) timers
