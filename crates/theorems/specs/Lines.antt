-- The line of an open region: a region goes from its holder to who waited for it, is never free in between, and a signal in the line is only recorded.
use Rattle.std.specs.Prelude.{ℕ, suc, ◌<◌, ◌≤◌, ◌≡◌, ◌≢◌, ◌⊎◌, true, get_or}
use Rattle.rules.specs.declared.Table.{Table}
use Rattle.rules.specs.declared.Task.{Task}
use Rattle.rules.specs.declared.Call.{Call}
use Rattle.rules.specs.Numbers.{SIGNAL, EXIT}
use Rattle.rules.specs.Events.{arrive}
use Rattle.rules.specs.Tasks.{ready, suspended, with_arrived}
use Rattle.rules.specs.Regions.{handed}
use Rattle.rules.specs.Tables.{region_of, changed, states_of}
use Rattle.rules.specs.Validity.{valid}
use Rattle.rules.specs.Refusals.{refusal}
use Rattle.rules.specs.Step.{step}
use Rattle.theorems.specs.Urgency.{urgency_of}

-- ---- "EXIT at count 0 gives it to its most urgent waiting task .., lowest number of equals, which holds it with count 1 and becomes ready"

-- region r came from task h to task x by call c
pub record HandedTo (t : Table) (c : Call) (r h x : ℕ) : Type 0 where
  -- it is the holder's EXIT of the region
  pub operation : c.operation ≡ EXIT
  pub caller : c.caller ≡ h
  pub region : c.a ≡ r
  -- task x waited for it, now holds it with count 1, and is ready
  pub waited : get_or t.awaits x 0 ≡ suc r
  pub holds : region_of (step t c).table r ≡ handed x
  pub again_ready : get_or (states_of (step t c).table) x 0 ≡ ready
  -- and nobody else who waited for it was more urgent, nor as urgent with a lower number
  pub first : (j : ℕ) → get_or t.awaits j 0 ≡ suc r → (urgency_of t x < urgency_of t j) ⊎ ((urgency_of t x ≡ urgency_of t j) × (x ≤ j))

-- whenever the holder after a call is another than before it
abbrev pub HandedOn : Type 0
HandedOn =
    (t : Table) (c : Call) (r h x : ℕ) → valid t ≡ true → get_or t.holder r 0 ≡ suc h → get_or (step t c).table.holder r 0 ≡ suc x → x ≢ h
    → HandedTo t c r h x

-- a region that a task waits for is occupied after every call, so that it goes from holder to holder
abbrev pub AwaitedNotFreed : Type 0
AwaitedNotFreed = (t : Table) (c : Call) (r j : ℕ) → valid t ≡ true → get_or t.awaits j 0 ≡ suc r → get_or (step t c).table.holder r 0 ≢ 0

-- ---- "a signal to such a task is only recorded"

-- the event arrived
abbrev pub recorded : ℕ → Task → Task
recorded event r = with_arrived (arrive event r.arrived) r

-- nothing else changes: who is elected neither, and the task is in state 3 still
abbrev pub SignalRecorded : Type 0
SignalRecorded =
    (t : Table) (c : Call) → refusal t c ≡ 0 → c.operation ≡ SIGNAL → get_or (states_of t) c.b 0 ≡ suspended
    → ((step t c).table ≡ changed c.b (recorded c.a) t) × (get_or (states_of (step t c).table) c.b 0 ≡ suspended)
