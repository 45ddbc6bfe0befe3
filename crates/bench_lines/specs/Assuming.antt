-- What a line behind the first promises, over a front and a lent store, where it is known whether the table is valid.
use Rattle.std.specs.Prelude.{ℕ, ◌≡◌, Bool, List, Option}
use Rattle.rules.specs.declared.Call.{Call}
use Rattle.rules.specs.declared.Table.{Table}
use Rattle.rules.specs.Validity.{valid}
use Rattle.tables.specs.declared.front.FrontDone.{FrontDone}
use Rattle.tables.specs.Fronts.{front_done}
use Rattle.bench_lines.specs.Steps.{request_done}

-- front and answer, elements and criteria are those of what the line asks for
abbrev pub IsDone : Table → Option Call → FrontDone → List ℕ → List ℕ → Type 0
IsDone t r d elements criteria =
    (d ≡ front_done (request_done t r)) × ((elements ≡ (request_done t r).table.element) × (criteria ≡ (request_done t r).table.criterion))

-- they are, if `known` says whether the table is valid
abbrev pub LineAssuming : Bool → Table → Option Call → FrontDone → List ℕ → List ℕ → Type 0
LineAssuming known t r d elements criteria = known ≡ valid t → IsDone t r d elements criteria
