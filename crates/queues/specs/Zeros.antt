-- A part of the store that is 0, elements and criteria alike.
use Rattle.std.specs.Prelude.{ℕ, Bool, ◌&&◌, List}
use Rattle.std.proofs.Math.Seq.{slice}
use Rattle.rules.specs.Words.{is_zero, every}

-- the places from..to
unfoldable pub zero_part : List ℕ → List ℕ → ℕ → ℕ → Bool
zero_part elements criteria from to = every is_zero (slice from to elements) && every is_zero (slice from to criteria)
