-- "Upper-case hexadecimal", both ways. A character is a byte.
use Rattle.std.specs.Prelude.{ℕ, zero, suc, ◌+◌, ◌*◌, ◌-◌, ◌/◌, ◌%◌, Bool, cond, ◌&&◌, ◌||◌, List, [], ◌∷◌, ◌++◌, ltb, leb, take, drop}

-- 0 to 9
abbrev pub is_figure : ℕ → Bool
is_figure b = leb 48 b && leb b 57

-- A to F
abbrev pub is_letter : ℕ → Bool
is_letter b = leb 65 b && leb b 70

abbrev pub is_digit : ℕ → Bool
is_digit b = is_figure b || is_letter b

-- what a digit stands for; "another character" stands for nothing, 0 here
unfoldable pub digit : ℕ → ℕ
digit b = cond (is_figure b) (b - 48) (cond (is_letter b) (b - 55) 0)

-- the number that the digits stand for, behind the number n
unfoldable pub value_from : ℕ → List ℕ → ℕ
value_from n [] = n
value_from n (b ∷ bs) = value_from (n * 16 + digit b) bs

abbrev pub value : List ℕ → ℕ
value digits = value_from 0 digits

-- the number in the n digits from a place on
unfoldable pub field : ℕ → ℕ → List ℕ → ℕ
field n at line = value (take n (drop at line))

-- the digit for a number from 0 to 15
unfoldable pub character : ℕ → ℕ
character d = cond (ltb d 10) (48 + d) (55 + d)

-- the last k digits of n
unfoldable pub digits : ℕ → ℕ → List ℕ
digits zero n = []
digits (suc k) n = digits k (n / 16) ++ character (n % 16) ∷ []

-- a number in decimal behind the number n, for words of a list: a character counts for what its code leaves over 16
unfoldable pub decimal_from : ℕ → List ℕ → ℕ
decimal_from n [] = n
decimal_from n (b ∷ bs) = decimal_from (n % 1000000000 * 10 + b % 16) bs

-- in 32 bits
abbrev pub decimal : List ℕ → ℕ
decimal word = decimal_from 0 word % 4294967296
