-- Laws of what comes before a first line's counts: its characters, its length, an odd number of digits.
use Rattle.std.proofs.Common.{◌≡◌, ℕ, ◌<◌, ◌≤◌, ◌%◌, true, false, ◌||◌, List, length, eqb, ltb, leb}
use Rattle.std.proofs.Math.Bool.{and-false}
use borrow.Author.Tests.{leb-true, le-leb, lt-leb, lt-ltb, le-ltb, eq-eqb, ne_eqb}
use Rattle.rules.specs.Words.{every}
use Rattle.rules.proofs.Bools.{and_left, or_second}
use Rattle.digits.specs.Digits.{is_digit}
use Rattle.lines.specs.Ends.{longest}
use Rattle.bench_lines.specs.Start.{first_refused}
use Rattle.bench_lines.specs.First.{plain, first_reasons, first_done}

-- ---- a line that is refused

module _ (line : List ℕ) where
  pub first_long : longest < length line → first_refused 21 ≡ first_done line
  unfolding first_done first_reasons plain
  first_long h = simp (lt-leb (length line) longest h)

  pub first_no_digits : every is_digit line ≡ false → first_refused 21 ≡ first_done line
  unfolding first_done first_reasons plain
  first_no_digits h = simp (h, and-false)

  pub first_short_or_odd : plain line ≡ true → (ltb (length line) 6 || eqb (length line % 2) 1) ≡ true → first_refused 21 ≡ first_done line
  unfolding first_done first_reasons
  first_short_or_odd p h = simp (p, h)

  pub first_short : plain line ≡ true → length line < 6 → first_refused 21 ≡ first_done line
  first_short p h = first_short_or_odd p (rw (lt-ltb (length line) 6 h))

  pub first_odd : plain line ≡ true → length line % 2 ≡ 1 → first_refused 21 ≡ first_done line
  first_odd p h = first_short_or_odd p (or_second (ltb (length line) 6) (eqb (length line % 2) 1) (eq-eqb (length line % 2) 1 h))

  -- ---- a line that isn't

  pub line_plain : length line ≤ longest → every is_digit line ≡ true → plain line ≡ true
  unfolding plain
  line_plain h d = simp (le-leb (length line) longest h, d)

  pub long_and_even : 6 ≤ length line → (length line % 2 ≡ 1 → ⊥) → (ltb (length line) 6 || eqb (length line % 2) 1) ≡ false
  long_and_even h n = simp (le-ltb (length line) 6 h, ne_eqb (length line % 2) 1 n)

  pub plain_short : plain line ≡ true → length line ≤ longest
  unfolding plain
  plain_short h = leb-true (length line) longest (and_left (leb (length line) longest) (every is_digit line) h)
