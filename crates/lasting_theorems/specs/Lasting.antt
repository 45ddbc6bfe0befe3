-- No signal is lost: an event that arrived stays until its task clears it, ends or is stopped; and nobody waits with its condition met.
use Rattle.std.specs.Prelude.{ℕ, ◌<◌, ◌≡◌, Bool, true, false, ◌&&◌, ◌||◌, List, [], ◌∷◌, eqb}
use Rattle.rules.specs.declared.Table.{Table}
use Rattle.rules.specs.declared.Call.{Call}
use Rattle.rules.specs.Numbers.{STOP, END, SIGNAL, CLEAR}
use Rattle.rules.specs.Events.{has, met}
use Rattle.rules.specs.Tasks.{is_waiting}
use Rattle.rules.specs.Tables.{task_of}
use Rattle.rules.specs.Validity.{valid}
use Rattle.rules.specs.Refusals.{refusal}
use Rattle.rules.specs.Step.{step}
use Rattle.theorems.specs.Kept.{after_all}

-- event e of task i has arrived
abbrev pub arrived_at : Table → ℕ → ℕ → Bool
arrived_at t e i = has e (task_of t i).arrived

-- the calls that may make task i forget event e: its CLEAR of a list with e, its END, a STOP of it
unfoldable pub forgets : ℕ → ℕ → Call → Bool
forgets e i c =
    (eqb c.operation CLEAR && (eqb c.caller i && has e c.a))
    || ((eqb c.operation END && eqb c.caller i)
    || (eqb c.operation STOP && eqb c.a i))

-- "event arrived, whatever it was"
abbrev pub SignalArrives : Type 0
SignalArrives = (t : Table) (c : Call) → refusal t c ≡ 0 → c.operation ≡ SIGNAL → arrived_at (step t c).table c.a c.b ≡ true

-- every other call, accepted or refused, keeps it
abbrev pub EventStays : Type 0
EventStays =
    (t : Table) (c : Call) (e i : ℕ) → forgets e i c ≡ false → arrived_at t e i ≡ true → arrived_at (step t c).table e i ≡ true

-- and so does any number of them
abbrev pub Remembered : ℕ → ℕ → List Call → Type 0
Remembered e i [] = Unit {0}
Remembered e i (c ∷ cs) = (forgets e i c ≡ false) × Remembered e i cs

abbrev pub NoSignalLost : Type 0
NoSignalLost =
    (t : Table) (c : Call) (cs : List Call) → refusal t c ≡ 0 → c.operation ≡ SIGNAL → Remembered c.a c.b cs
    → arrived_at (after_all (step t c).table cs) c.a c.b ≡ true

-- after any calls from a valid table on, whoever waits has a condition that is not met
abbrev pub NoneLeftWaiting : Type 0
NoneLeftWaiting =
    (t : Table) (cs : List Call) → valid t ≡ true → (i : ℕ) → i < (after_all t cs).tasks → is_waiting (task_of (after_all t cs) i) ≡ true
    → met (task_of (after_all t cs) i).operator (task_of (after_all t cs) i).list (task_of (after_all t cs) i).arrived ≡ false
