-- Validity is kept: by every call, by any number of them, and fresh tables have it.
use Rattle.std.specs.Prelude.{ℕ, ◌≡◌, ◌≢◌, true, false, List, [], ◌∷◌}
use Rattle.rules.specs.declared.Table.{Table}
use Rattle.rules.specs.declared.Call.{Call}
use Rattle.rules.specs.Validity.{valid}
use Rattle.rules.specs.Fresh.{configuration_in_range, fresh_table, zero_table}
use Rattle.rules.specs.Refusals.{refusal}
use Rattle.rules.specs.Step.{step}

-- each of the thirteen operations, and each number past them, accepted or refused
abbrev pub ValidKept : Type 0
ValidKept = (t : Table) (c : Call) → valid t ≡ true → valid (step t c).table ≡ true

-- the table after some calls, and that it is valid
abbrev pub after_all : Table → List Call → Table
after_all t [] = t
after_all t (c ∷ cs) = after_all (step t c).table cs

abbrev pub ValidAfter : Type 0
ValidAfter = (t : Table) (cs : List Call) → valid t ≡ true → valid (after_all t cs) ≡ true

-- "Every refusal leaves the table as it came in"
abbrev pub RefusedSame : Type 0
RefusedSame = (t : Table) (c : Call) → refusal t c ≢ 0 → (step t c).table ≡ t

-- so whether a table is valid stays as it is, and need not be looked at again
abbrev pub ValidSame : Type 0
ValidSame = (t : Table) (c : Call) → valid (step t c).table ≡ valid t

abbrev pub FreshValid : Type 0
FreshValid =
    (tasks regions queues : ℕ) (priorities bounds marks : List ℕ) → configuration_in_range tasks regions queues priorities bounds marks ≡ true
    → valid (fresh_table tasks regions queues priorities bounds marks) ≡ true

-- "a table of zeros, which is not valid"
abbrev pub ZerosInvalid : Type 0
ZerosInvalid = valid zero_table ≡ false
