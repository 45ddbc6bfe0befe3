-- Laws of digits that are written: how many they are, and a turn and the end of the loop over them.
use Rattle.std.proofs.Common.{ℕ, zero, suc, ◌-◌, ◌/◌, ◌%◌, ◌<◌, ◌≤◌, ◌≡◌, refl, sym, List, ◌++◌, append_assoc, append-nil, arith, length, drop, set, length-append, length-set, drop-cons, drop-set-lt, get_or-set_same}
use lib.Seq.{drop-length}
use Rattle.digits.specs.Digits.{character, digits}

-- ---- how many

pub digits_length : (k n : ℕ) → length (digits k n) ≡ k
unfolding digits
digits_length zero n = refl
digits_length (suc k) n = rw (length-append, digits_length k (n / 16)) (omega arith)

-- ---- the digits still to be written, and those that stand

pub put_start : (n : ℕ) (l : List ℕ) → digits (length l) n ≡ digits (length l) n ++ drop (length l) l
put_start n l = simp (drop-length, append-nil)

pub put_again : (i rest d m : ℕ) (l : List ℕ) {z : List ℕ} → z ≡ digits i rest ++ drop i l → d ≡ character (rest % 16) → 0 < i → i ≤ m → length l ≡ m
    → z ≡ digits (i - 1) (rest / 16) ++ drop (i - 1) (set l (i - 1) d)
unfolding digits
put_again zero rest d m l k e p h g = absurd (omega arith)
put_again (suc j) rest d m l k e p h g =
    let before : suc j - 1 ≡ j = omega arith in
    let here : j < length l = omega arith in
    let there : j < length (set l j d) = rw length-set here in
    rw (before, drop-cons (set l j d) j 0 there, get_or-set_same l j d 0 here, drop-set-lt (suc j) l j d (omega arith), e)
    (rw append_assoc at k)

pub put_end : (i rest : ℕ) (l : List ℕ) {z : List ℕ} → z ≡ digits i rest ++ drop i l → i ≤ 0 → l ≡ z
unfolding digits
put_end zero rest l k h = sym k
put_end (suc i) rest l k h = absurd (omega arith)
