-- What the functions for a call promise, over a front and a lent store: the step of the rules.
use Rattle.std.specs.Prelude.{◌≡◌, ℕ, Bool, List}
use Rattle.rules.specs.declared.Table.{Table}
use Rattle.rules.specs.declared.Call.{Call}
use Rattle.rules.specs.declared.Done.{Done}
use Rattle.rules.specs.Numbers.{TICK}
use Rattle.rules.specs.Tables.{elect_of, with_elected}
use Rattle.rules.specs.Validity.{valid}
use Rattle.rules.specs.Refusals.{refusal}
use Rattle.rules.specs.Step.{step}
use Rattle.tables.specs.declared.front.Front.{Front}
use Rattle.tables.specs.declared.front.FrontDone.{FrontDone}
use Rattle.tables.specs.Fronts.{whole, front_done, answered}

-- front and answer, elements and criteria after a call on t are those of the step
abbrev pub IsStep : Table → Call → FrontDone → List ℕ → List ℕ → Type 0
IsStep t c d elements criteria = (d ≡ front_done (step t c)) × ((elements ≡ (step t c).table.element) × (criteria ≡ (step t c).table.criterion))

-- t with its elected task found afresh, and the answer of an accepted call that says so
abbrev pub elected_afresh : Table → ℕ → Done
elected_afresh t status = answered (with_elected (elect_of t.elected t).task t) status 0 0 (elect_of t.elected t).displaced

-- they are, if `known` says whether the table is valid
abbrev pub StepAssuming : Bool → Table → Call → FrontDone → List ℕ → List ℕ → Type 0
StepAssuming known t c d elements criteria = known ≡ valid t → IsStep t c d elements criteria

-- they are, if the call is accepted
abbrev pub StepAccepted : Table → Call → FrontDone → List ℕ → List ℕ → Type 0
StepAccepted t c d elements criteria = refusal t c ≡ 0 → IsStep t c d elements criteria

-- of a call that leaves the store as it is: d is the step's, whatever lies in the store, if the call is accepted
abbrev pub FrontStep : Front → Call → FrontDone → Type 0
FrontStep f c d = (elements criteria : List ℕ) → refusal (whole f elements criteria) c ≡ 0 → d ≡ front_done (step (whole f elements criteria) c)

-- of every TICK
abbrev pub TickStep : Front → FrontDone → Type 0
TickStep f d = (c : Call) → c.operation ≡ TICK → FrontStep f c d
