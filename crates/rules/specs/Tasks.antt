-- Tasks: their three states, and how a call changes one of them.
use Rattle.std.specs.Prelude.{ℕ, Bool, cond, ◌&&◌, eqb}
use Rattle.rules.specs.declared.Task.{Task}
use Rattle.rules.specs.Events.{met, arrive, cleared}

-- "STATE (task: 0 stopped, 1 ready, 2 waiting)"
abbrev pub stopped : ℕ
stopped = 0

abbrev pub ready : ℕ
ready = 1

abbrev pub waiting : ℕ
waiting = 2

-- "STATE 3 means waiting for a region"
abbrev pub suspended : ℕ
suspended = 3

abbrev pub is_stopped : Task → Bool
is_stopped r = eqb r.state stopped

abbrev pub is_ready : Task → Bool
is_ready r = eqb r.state ready

abbrev pub is_waiting : Task → Bool
is_waiting r = eqb r.state waiting

-- START: "stopped becomes ready, no event arrived"
abbrev pub as_started : Task → Task
as_started r = record { state = ready; arrived = 0; list = 0; operator = 0 }

-- STOP: "becomes stopped, events and waited list cleared"
abbrev pub as_stopped : Task → Task
as_stopped r = record { state = stopped; arrived = 0; list = 0; operator = 0 }

-- "Waiting: a list that isn't empty, an operator .."
abbrev pub as_waiting : ℕ → ℕ → Task → Task
as_waiting list operator r = record { state = waiting; arrived = r.arrived; list = list; operator = operator }

-- WAIT: "condition met: nothing changes .. else the caller waits"
unfoldable pub waited : ℕ → ℕ → Task → Task
waited list operator r = cond (met operator list r.arrived) r (as_waiting list operator r)

-- a waiting task "becomes ready"; "waking doesn't clear events"
abbrev pub as_woken : Task → Task
as_woken r = record { state = ready; arrived = r.arrived; list = 0; operator = 0 }

abbrev pub with_arrived : ℕ → Task → Task
with_arrived arrived r = record { state = r.state; arrived = arrived; list = r.list; operator = r.operator }

-- "a waiting task whose condition is now met becomes ready"
unfoldable pub woken : Task → Task
woken r = cond (is_waiting r && met r.operator r.list r.arrived) (as_woken r) r

-- SIGNAL: "event arrived, whatever it was; a waiting task whose condition is now met becomes ready"
unfoldable pub signalled : ℕ → Task → Task
signalled event r = woken (with_arrived (arrive event r.arrived) r)

-- CLEAR: "the caller's listed events become not arrived"
abbrev pub as_cleared : ℕ → Task → Task
as_cleared list r = with_arrived (cleared list r.arrived) r
