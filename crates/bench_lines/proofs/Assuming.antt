-- Whether the table is valid stays as it is from line to line.
use Rattle.std.proofs.Common.{ℕ, ◌≡◌, refl, sym, ◌∙◌, Bool, List, Option, Some, None}
use Rattle.rules.specs.declared.Call.{Call}
use Rattle.rules.specs.declared.Table.{Table}
use Rattle.rules.specs.Validity.{valid}
use Rattle.theorems.proofs.Kept.{valid_same}
use Rattle.tables.specs.declared.front.FrontDone.{FrontDone}
use Rattle.tables.specs.Fronts.{whole}
use Rattle.bench_lines.specs.Steps.{malformed, request_done}
use Rattle.bench_lines.specs.Assuming.{IsDone}

request_valid : (t : Table) (r : Option Call) → valid (request_done t r).table ≡ valid t
unfolding request_done malformed
request_valid t (Some call) = valid_same t call
request_valid t None = refl

-- what is known of a table is so of the table after the line
pub still_known : (known : Bool) (t : Table) (r : Option Call) → known ≡ valid t → {d : FrontDone} {es cs : List ℕ}
    → IsDone t r d es cs
    → known ≡ valid (whole d.front es cs)
still_known known t r is (p, (q, s)) = rw (p, q, s) (is ∙ sym (request_valid t r))
