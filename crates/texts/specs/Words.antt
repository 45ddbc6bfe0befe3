-- The words of a list of tests that are numbers.
use Rattle.std.specs.Prelude.{ℕ, cond, List, get_or, Option, None, Some}
use Rattle.digits.specs.Digits.{is_figure, decimal}

-- the number that a word stands for: one in decimal where it begins with a figure, else none
abbrev pub number_in : List ℕ → Option ℕ
number_in word = cond (is_figure (get_or word 0 0)) (Some (decimal word)) None
