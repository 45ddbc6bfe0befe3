-- Laws of digits: how large the number of one is, and the number in two.
use Rattle.std.proofs.Common.{ℕ, ◌+◌, ◌*◌, ◌<◌, ◌≡◌, refl, Bool, true, false, [], ◌∷◌, arith, leb}
use borrow.Author.Tests.{leb-true}
use Rattle.rules.proofs.Bools.{and_right}
use Rattle.digits.specs.Digits.{is_figure, is_letter, digit, value_from, value}

pub digit_small : (b : ℕ) → digit b < 16
unfolding digit
digit_small b = go (is_figure b) (is_letter b) refl refl
  where
    go : (f l : Bool) → is_figure b ≡ f → is_letter b ≡ l → digit b < 16
    go true l e d = rw e (omega (arith, leb-true b 57 (and_right (leb 48 b) (leb b 57) e)))
    go false true e d = rw (e, d) (omega (arith, leb-true b 70 (and_right (leb 65 b) (leb b 70) d)))
    go false false e d = rw (e, d) (omega arith)

pub two_digits : (x y : ℕ) → value (x ∷ y ∷ []) ≡ digit x * 16 + digit y
unfolding value_from
two_digits x y = omega arith

pub two_digits_small : (x y : ℕ) → value (x ∷ y ∷ []) < 256
two_digits_small x y = rw two_digits (omega (arith, digit_small x, digit_small y))
