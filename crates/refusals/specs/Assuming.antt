-- The first reason, where it is known whether the table is valid. A table is spoken of by its front and its store, of which only the criteria
-- are read: what is said holds of every store of elements.
use Rattle.std.specs.Prelude.{ℕ, ◌≡◌, Bool, true, not, List, [], ◌∷◌, ltb}
use Rattle.rules.specs.declared.Call.{Call}
use Rattle.rules.specs.Numbers.{TICK}
use Rattle.rules.specs.Words.{Reason, when, first}
use Rattle.rules.specs.Validity.{valid}
use Rattle.rules.specs.Refusals.{outside_barred, not_elected, tick_by_task, refusal}
use Rattle.tables.specs.declared.front.Front.{Front}
use Rattle.tables.specs.Fronts.{whole}

-- the reasons before 14, where `known` says whether the table is valid
abbrev pub early_reasons : Bool → ℕ → Call → List Reason
early_reasons known elected c =
    when 10 (not known)
    ∷ when 11 (ltb TICK c.operation)
    ∷ when 13 (outside_barred c)
    ∷ when 12 (not_elected elected c.caller)
    ∷ when 13 (tick_by_task c)
    ∷ []

-- of a valid table to which none of these applies, r is the rules' refusal
abbrev pub LateRefusal : Front → List ℕ → Call → ℕ → Type 0
LateRefusal f criterion c r =
    (element : List ℕ) → valid (whole f element criterion) ≡ true → first (early_reasons true f.elected c) ≡ 0
    → r ≡ refusal (whole f element criterion) c

-- if `known` says whether the table is valid, r is the rules' refusal
abbrev pub RefusalAssuming : Bool → Front → List ℕ → Call → ℕ → Type 0
RefusalAssuming known f criterion c r =
    (element : List ℕ) → known ≡ valid (whole f element criterion) → r ≡ refusal (whole f element criterion) c
