-- Urgency: "a holder takes the smallest priority number of its own and those waiting on it, through any chain"; and nobody waits in a circle.
use Rattle.std.specs.Prelude.{ℕ, zero, suc, ◌<◌, ◌≤◌, ◌≡◌, true, false, List, get_or}
use Rattle.rules.specs.declared.Table.{Table}
use Rattle.rules.specs.declared.Call.{Call}
use Rattle.rules.specs.Numbers.{task_room}
use Rattle.rules.specs.Regions.{occupied}
use Rattle.rules.specs.Election.{ready_at, Wins}
use Rattle.rules.specs.Urgency.{nobody_awaits}
use Rattle.rules.specs.Tables.{states_of, urgencies_of, closed_of}
use Rattle.rules.specs.Validity.{valid}
use Rattle.rules.specs.Refusals.{refusal}
use Rattle.rules.specs.Step.{step}
use Rattle.theorems.specs.Kept.{after_all}

abbrev pub urgency_of : Table → ℕ → ℕ
urgency_of t i = get_or (urgencies_of t) i 0

-- ---- who waits for whom

-- task j waits for task i: for a region that i holds
pub record WaitsFor (t : Table) (j i : ℕ) : Type 0 where
  pub region : ℕ
  pub awaited : get_or t.awaits j 0 ≡ suc region
  pub held : get_or t.holder region 0 ≡ suc i

-- through a chain of n such; through none it is the task itself
abbrev pub WaitsThrough : Table → ℕ → ℕ → ℕ → Type 0
WaitsThrough t zero j i = j ≡ i
WaitsThrough t (suc n) j i = (k : ℕ) × WaitsFor t j k × WaitsThrough t n k i

-- ---- a holder is never less urgent than a task that it holds up

abbrev pub HolderUrgent : Type 0
HolderUrgent = (t : Table) → valid t ≡ true → (j i : ℕ) → WaitsFor t j i → urgency_of t i ≤ urgency_of t j

abbrev pub ChainUrgent : Type 0
ChainUrgent = (t : Table) → valid t ≡ true → (n j i : ℕ) → WaitsThrough t n j i → urgency_of t i ≤ urgency_of t j

-- ---- what a task's urgency is

-- at most the priority of whoever waits for it through any chain, its own among them
abbrev pub UrgencyLeast : Type 0
UrgencyLeast = (t : Table) → valid t ≡ true → (n j i : ℕ) → j < task_room → WaitsThrough t n j i → urgency_of t i ≤ get_or t.priority j 0

-- and the priority of one of these
abbrev pub UrgencyAttained : Type 0
UrgencyAttained =
    (t : Table) → valid t ≡ true → (i : ℕ) → i < task_room
    → (n : ℕ) × (j : ℕ) × WaitsThrough t n j i × (get_or t.priority j 0 ≡ urgency_of t i)

-- a task that nobody waits for has its own
abbrev pub OwnUrgency : Type 0
OwnUrgency =
    (t : Table) → valid t ≡ true → (i : ℕ) → i < task_room → ((j : ℕ) → WaitsFor t j i → ⊥) → urgency_of t i ≡ get_or t.priority i 0

-- and where no task is in state 3 all have their own: the quick way
abbrev pub QuietUrgency : Type 0
QuietUrgency = (t : Table) → valid t ≡ true → nobody_awaits t.awaits ≡ true → urgencies_of t ≡ t.priority

-- ---- "Election uses that urgency"

-- after every accepted call, where no closed region is occupied and a task is ready: the ready task of smallest urgency, of equals the lowest number
abbrev pub MostUrgentRuns : Type 0
MostUrgentRuns =
    (t : Table) (c : Call) → refusal t c ≡ 0 → occupied (closed_of (step t c).table) ≡ false → (i : ℕ) → i < task_room
    → ready_at (states_of (step t c).table) i ≡ true
    → Wins (states_of (step t c).table) (urgencies_of (step t c).table) (step t c).table.elected

-- ---- no task waits for itself through any chain, after any calls

abbrev pub NoWaitForOneself : Type 0
NoWaitForOneself = (t : Table) (cs : List Call) → valid t ≡ true → (n i : ℕ) → WaitsThrough (after_all t cs) (suc n) i i → ⊥
