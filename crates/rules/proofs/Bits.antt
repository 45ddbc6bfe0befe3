-- Laws of bits that the library lacks, all from what a single bit is: numbers with the same bits are equal.
use Prim.Native.Nat.{ℕ, zero, suc, ◌+◌, ◌-◌, ◌/◌, ◌%◌, ◌^◌, min, max}
use mathlib.Core.Path.{◌≡◌, refl, sym, ap, ◌∙◌}
use mathlib.Core.Logic.{◌≢◌}
use mathlib.Core.Bool.{Bool, true, false}
use native.Mathlib.Omega.{arith}
use native.Mathlib.Nat.{suc-sub-suc, suc-min-suc, suc-max-suc, div-eq_of_lt, pow-suc, one-mul}
use lib.Dec.{eqb, ltb}
use lib.Arith.{bin_ind}
use lib.Pow.{pow_pos, pow-lt, pow-add, shr-shr, shl-shr}
use borrow.Author.Tests.{eqb-true, eqb-false, ltb-true, ltb-false}
use lib.Bits.{bit_and, bit_or, bit_xor, differ, and_step, or_step, xor_step, and_shr, or_shr, xor_shr}

abbrev pub bit : ℕ → ℕ → ℕ
bit i n = n / 2 ^ i % 2

bit_half : (i n : ℕ) → bit i (n / 2) ≡ bit (suc i) n
bit_half i n = let e : 1 + i ≡ suc i = omega arith in ap (λ m. m % 2) (shr-shr n 1 i ∙ ap (λ k. n / 2 ^ k) e)

bit_zero : (n : ℕ) → bit 0 n ≡ n % 2
bit_zero n = omega arith

no_bits : (n : ℕ) → ((i : ℕ) → bit i n ≡ 0) → n ≡ 0
no_bits =
    bin_ind (λ n. ((i : ℕ) → bit i n ≡ 0) → n ≡ 0) (λ h. refl)
    (λ n ih h. let half = ih (λ i. bit_half i n ∙ h (suc i)) in omega (arith, bit_zero n, h 0))

pub bit_of_zero : (i : ℕ) → bit i 0 ≡ 0
bit_of_zero i = ap (λ q. q % 2) (div-eq_of_lt (pow_pos i))

-- numbers with the same bits are equal
pub same_bits : (m n : ℕ) → ((i : ℕ) → bit i m ≡ bit i n) → m ≡ n
same_bits =
    bin_ind (λ m. (n : ℕ) → ((i : ℕ) → bit i m ≡ bit i n) → m ≡ n)
    (λ n h. sym (no_bits n (λ i. sym (h i) ∙ bit_of_zero i)))
    (λ m ih n h.
    let half = ih (n / 2) (λ i. bit_half i m ∙ h (suc i) ∙ sym (bit_half i n)) in
    omega (arith, bit_zero m, bit_zero n, h 0))

-- a number that is not 0 has a bit
pub some_bit : (n : ℕ) → n ≢ 0 → (i : ℕ) × (bit i n ≡ 1)
some_bit =
    bin_ind (λ n. n ≢ 0 → (i : ℕ) × (bit i n ≡ 1)) (λ h. absurd (h refl)) (λ n ih h. go n ih h (eqb (n % 2) 1) refl)
  where
    go : (n : ℕ) → (n / 2 ≢ 0 → (i : ℕ) × (bit i (n / 2) ≡ 1)) → n ≢ 0 → (b : Bool) → eqb (n % 2) 1 ≡ b → (i : ℕ) × (bit i n ≡ 1)
    go n ih h true e = (0, bit_zero n ∙ eqb-true (n % 2) 1 e)
    go n ih h false e =
        let even : n % 2 ≢ 1 = eqb-false (n % 2) 1 e in
        let q = ih (omega arith) in
        (suc q.0, sym (bit_half q.0 n) ∙ q.1)

-- ---- a bit of a sum of bits

digit_and : (a b : ℕ) → bit_and a b % 2 ≡ min (a % 2) (b % 2)
digit_and a b = omega (arith, and_step a b)

digit_or : (a b : ℕ) → bit_or a b % 2 ≡ max (a % 2) (b % 2)
digit_or a b = omega (arith, or_step a b)

pub bit_and_lem : (i a b : ℕ) → bit i (bit_and a b) ≡ min (bit i a) (bit i b)
bit_and_lem i a b = ap (λ n. n % 2) (and_shr a b i) ∙ digit_and (a / 2 ^ i) (b / 2 ^ i)

pub bit_or_lem : (i a b : ℕ) → bit i (bit_or a b) ≡ max (bit i a) (bit i b)
bit_or_lem i a b = ap (λ n. n % 2) (or_shr a b i) ∙ digit_or (a / 2 ^ i) (b / 2 ^ i)

digit_xor : (a b : ℕ) → bit_xor a b % 2 ≡ max (a % 2) (b % 2) - min (a % 2) (b % 2)
digit_xor a b = omega (arith, xor_step a b, differ_is (a % 2) (b % 2))
  where
    differ_is : (x y : ℕ) → differ x y ≡ max x y - min x y
    differ_is zero y = omega arith
    differ_is (suc x) zero = omega arith
    differ_is (suc x) (suc y) = rw (suc-max-suc, suc-min-suc, suc-sub-suc) (differ_is x y)

pub bit_xor_lem : (i a b : ℕ) → bit i (bit_xor a b) ≡ max (bit i a) (bit i b) - min (bit i a) (bit i b)
bit_xor_lem i a b = ap (λ n. n % 2) (xor_shr a b i) ∙ digit_xor (a / 2 ^ i) (b / 2 ^ i)

-- ---- a power of two has one bit

pub bit_same : (i : ℕ) → bit i (2 ^ i) ≡ 1
bit_same i = ap (λ q. q % 2) (ap (λ m. m / 2 ^ i) (sym (one-mul (2 ^ i))) ∙ shl-shr 1 i)

pub bit_other : (i j : ℕ) → i ≢ j → bit i (2 ^ j) ≡ 0
bit_other i j n = go (ltb i j) refl
  where
    above : (k : ℕ) → bit i (2 ^ (suc k + i)) ≡ 0
    above k =
        let e : 2 ^ (suc k + i) / 2 ^ i ≡ 2 ^ suc k = ap (λ m. m / 2 ^ i) (pow-add 2 (suc k) i) ∙ shl-shr (2 ^ suc k) i in
        rw (e, pow-suc 2 k) (omega arith)

    go : (b : Bool) → ltb i j ≡ b → bit i (2 ^ j) ≡ 0
    go true e =
        let l = ltb-true i j e in
        let sum : suc (j - i - 1) + i ≡ j = omega arith in
        rw sum at (above (j - i - 1))
    go false e = let l = ltb-false i j e in ap (λ q. q % 2) (div-eq_of_lt (pow-lt (omega arith)))

-- ---- laws

pub or_assoc : (a b c : ℕ) → bit_or (bit_or a b) c ≡ bit_or a (bit_or b c)
or_assoc a b c = same_bits _ _ (λ i. simp bit_or_lem (omega arith))

pub and_or : (a b c : ℕ) → bit_and a (bit_or b c) ≡ bit_or (bit_and a b) (bit_and a c)
and_or a b c = same_bits _ _ (λ i. simp (bit_and_lem, bit_or_lem) (omega arith))

pub or_and : (a b : ℕ) → bit_or a (bit_and a b) ≡ a
or_and a b = same_bits _ _ (λ i. simp (bit_and_lem, bit_or_lem) (omega arith))
