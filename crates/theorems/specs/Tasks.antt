-- What signals do to one task, and what stops and disarms do to its timers.
use Rattle.std.specs.Prelude.{ℕ, ◌≡◌, true, false}
use Rattle.rules.specs.declared.Table.{Table}
use Rattle.rules.specs.declared.Task.{Task}
use Rattle.rules.specs.Events.{met, arrive}
use Rattle.rules.specs.Tasks.{is_stopped, is_ready, is_waiting, woken, signalled}
use Rattle.rules.specs.Timers.{idle, armed_by, disarmed}
use Rattle.rules.specs.Tables.{timer_of}
use Rattle.rules.specs.Effects.{stopped_table}

-- "event arrived, whatever it was", and "Waking doesn't clear events"
abbrev pub SignalledArrived : Type 0
SignalledArrived = (e : ℕ) (r : Task) → (signalled e r).arrived ≡ arrive e r.arrived

-- a second signal of the same event changes nothing
abbrev pub SignalledTwice : Type 0
SignalledTwice = (e : ℕ) (r : Task) → signalled e (signalled e r) ≡ signalled e r

-- "Signals also change places with each other": two to one task
abbrev pub SignalledComm : Type 0
SignalledComm = (d e : ℕ) (r : Task) → signalled d (signalled e r) ≡ signalled e (signalled d r)

-- a stopped task stays stopped and a ready one ready; nobody else becomes stopped
abbrev pub SignalledStopped : Type 0
SignalledStopped = (e : ℕ) (r : Task) → is_stopped (signalled e r) ≡ is_stopped r

abbrev pub SignalledReady : Type 0
SignalledReady = (e : ℕ) (r : Task) → is_ready r ≡ true → is_ready (signalled e r) ≡ true

-- "a waiting task whose condition is now met becomes ready": none is left waiting with its condition met
abbrev pub WokenUnmet : Type 0
WokenUnmet = (r : Task) → is_waiting (woken r) ≡ true → met (woken r).operator (woken r).list (woken r).arrived ≡ false

-- "DISARM of an idle one changes nothing"
abbrev pub DisarmIdle : Type 0
DisarmIdle = (task : ℕ) → disarmed task idle ≡ idle

-- "STOP and END disarm the task's timers"
abbrev pub StopDisarms : Type 0
StopDisarms = (t : Table) (task i : ℕ) → armed_by task (timer_of (stopped_table task t) i) ≡ false
