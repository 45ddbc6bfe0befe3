-- Who is pushed aside by a call: "the former elected task if it is still ready and no longer elected".
use Rattle.std.specs.Prelude.{ℕ, ◌≡◌, ◌≢◌, ◌⊎◌, true, false}
use Rattle.rules.specs.declared.Table.{Table}
use Rattle.rules.specs.declared.Call.{Call}
use Rattle.rules.specs.Numbers.{nobody, STOP, END}
use Rattle.rules.specs.Election.{ready_at}
use Rattle.rules.specs.Tables.{states_of}
use Rattle.rules.specs.Step.{step}

abbrev pub displaced : Table → Call → ℕ
displaced t c = (step t c).answer.displaced

-- a displaced task was elected, is ready, and another is elected now
pub record PushedAside (t : Table) (c : Call) : Type 0 where
  pub was : t.elected ≡ displaced t c
  pub ready : ready_at (states_of (step t c).table) (displaced t c) ≡ true
  pub another : (step t c).table.elected ≢ displaced t c

abbrev pub DisplacedAside : Type 0
DisplacedAside = (t : Table) (c : Call) → displaced t c ≢ nobody → PushedAside t c

-- where the elected task stays elected nobody is displaced
abbrev pub StaysUndisplaced : Type 0
StaysUndisplaced = (t : Table) (c : Call) → (step t c).table.elected ≡ t.elected → displaced t c ≡ nobody

-- nor is anybody by a call behind which its caller isn't ready: a WAIT that waits, an ENTER that suspends, END, STOP of oneself
abbrev pub LeavesUndisplaced : Type 0
LeavesUndisplaced =
    (t : Table) (c : Call) → ((step t c).answer.status ≡ 1) ⊎ ((c.operation ≡ END) ⊎ ((c.operation ≡ STOP) × (c.a ≡ c.caller)))
    → displaced t c ≡ nobody

-- whoever is elected and was not comes after nobody, or after one that is no longer ready, or has displaced the former one
abbrev pub Succeeds : Type 0
Succeeds =
    (t : Table) (c : Call) → (step t c).table.elected ≢ t.elected
    → (t.elected ≡ nobody) ⊎ ((ready_at (states_of (step t c).table) t.elected ≡ false) ⊎ (displaced t c ≢ nobody))
