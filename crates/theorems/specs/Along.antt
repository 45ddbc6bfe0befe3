-- Urgency changes only along the chain of a call.
use Rattle.std.specs.Prelude.{ℕ, suc, ◌<◌, ◌≡◌, ◌≢◌, ◌⊎◌, get_or}
use Rattle.rules.specs.declared.Table.{Table}
use Rattle.rules.specs.declared.Call.{Call}
use Rattle.rules.specs.Numbers.{task_room, STOP, ENTER, EXIT}
use Rattle.rules.specs.Step.{step}
use Rattle.theorems.specs.Urgency.{urgency_of, WaitsThrough}

-- whose urgency a call may change
pub data Along (t : Table) (c : Call) (i : ℕ) : Type 0 where
  -- an ENTER that suspends: the holder of the wanted region, and whomever that one waits for through any chain
  by_enter : c.operation ≡ ENTER → (step t c).answer.status ≡ 1 → (h n : ℕ) → get_or t.holder c.a 0 ≡ suc h → WaitsThrough t n h i → Along t c i
  -- an EXIT that hands its region on: the caller, and the heir
  by_exit : c.operation ≡ EXIT → (x : ℕ) → get_or t.awaits x 0 ≡ suc c.a → get_or (step t c).table.holder c.a 0 ≡ suc x
      → (i ≡ c.caller) ⊎ (i ≡ x)
      → Along t c i
  -- a STOP of a task in line: whomever it waits for
  by_stop : c.operation ≡ STOP → (n : ℕ) → WaitsThrough t (suc n) c.a i → Along t c i

-- and nobody else's, by no other call
abbrev pub UrgencyOnlyAlong : Type 0
UrgencyOnlyAlong = (t : Table) (c : Call) (i : ℕ) → i < task_room → urgency_of (step t c).table i ≢ urgency_of t i → Along t c i
