-- The numbers in digits that stand side by side.
use Rattle.std.specs.Prelude.{ℕ, suc, ◌+◌, ◌*◌, List, get_or}
use Rattle.digits.specs.Digits.{digit}

-- how many of them the code reads in one step
abbrev pub step_bytes : ℕ
step_bytes = 16

-- the number in a digit and the one behind it
abbrev pub two_digits_at : List ℕ → ℕ → ℕ
two_digits_at line i = digit (get_or line i 0) * 16 + digit (get_or line (suc i) 0)
