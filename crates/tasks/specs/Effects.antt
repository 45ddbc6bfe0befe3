-- The first six operations as one change of one task, for the code's shape.
use Rattle.std.specs.Prelude.{ℕ, ◌%◌, cond, eqb, ltb}
use Rattle.rules.specs.declared.Task.{Task}
use Rattle.rules.specs.declared.Call.{Call}
use Rattle.rules.specs.Numbers.{list_end, event_end, START, END, SIGNAL, WAIT, CLEAR}
use Rattle.rules.specs.Tasks.{as_started, as_stopped, signalled, waited, as_cleared}

-- which task a call changes: START and STOP, the operations before END, name it first, SIGNAL second
unfoldable pub target : Call → ℕ
target c = cond (ltb c.operation END) c.a (cond (eqb c.operation SIGNAL) c.b c.caller)

-- the task after the call; an accepted call's numbers fit, so that the remainders change nothing
unfoldable pub task_after : Call → Task → Task
task_after c r =
    cond (eqb c.operation START) (as_started r)
    (cond (eqb c.operation SIGNAL) (signalled (c.a % event_end) r)
    (cond (eqb c.operation WAIT) (waited (c.a % list_end) (c.b % 256) r)
    (cond (eqb c.operation CLEAR) (as_cleared (c.a % list_end) r) (as_stopped r))))
