-- Words over any width: which bits are set, that the empty word says "none", and that the lowest set bit is the lowest number that passes.
use Rattle.std.proofs.Common.{ℕ, zero, suc, ◌+◌, ◌/◌, ◌%◌, ◌^◌, ◌<◌, ◌≤◌, max, ◌≡◌, refl, sym, ap, ◌∙◌, ◌≢◌, ⊎_elim, Bool, bit_or, true, false, cond, arith, pow-suc, add-one, eqb, ltb, pow_pos, pow_mono, shr-shr, shr_lt, eqb-true, ltb-true, ltb-false}
use mathlib.Core.Bool.{false≢true}
use native.Mathlib.Nat.{div-eq_of_lt}
use lib.Bits.{or_lt}
use lib.Count.{count_trailing_zeros}
use lib.Pow.{pow-lt}
use borrow.Author.Tests.{eqb-false}
use Rattle.rules.specs.Numbers.{nobody}
use Rattle.rules.specs.Election.{lowest}
use Rattle.rules.proofs.Bits.{bit, bit_of_zero, bit_or_lem, bit_same, bit_other}
use Rattle.rules.proofs.Election.{Lowest, lowest_is}
use Rattle.election.specs.Words.{word}

-- ---- the lowest set bit of a number

pub record LowestBit (k n t : ℕ) : Type 0 where
  pub below : t < k
  pub one : bit t n ≡ 1
  pub zeros : (i : ℕ) → i < t → bit i n ≡ 0

half : (i n : ℕ) → bit (suc i) n ≡ bit i (n / 2)
half i n = let e : 1 + i ≡ suc i = omega arith in sym (ap (λ m. m % 2) (shr-shr n 1 i ∙ ap (λ k. n / 2 ^ k) e))

last : (n : ℕ) → bit 0 n ≡ n % 2
last n = omega arith

-- the zeros behind it are its place
pub trailing_lowest : (k n : ℕ) → n < 2 ^ k → n ≢ 0 → LowestBit k n (count_trailing_zeros k n)
unfolding count_trailing_zeros
trailing_lowest zero n h z = absurd (z (omega arith))
trailing_lowest (suc k) n h z = go (n % 2) refl (trailing_lowest k (n / 2))
  where
    less : n / 2 < 2 ^ k
    less = shr_lt k 1 (rw add-one h)

    go : (d : ℕ) → n % 2 ≡ d → (n / 2 < 2 ^ k → n / 2 ≢ 0 → LowestBit k (n / 2) (count_trailing_zeros k (n / 2)))
        → LowestBit (suc k) n (count_trailing_zeros (suc k) n)
    go zero e ih =
        let q = ih less (λ x. z (omega arith)) in
        rw e (record { below = omega arith; one = half _ n ∙ q.one; zeros = behind q.zeros })
      where
        behind : ((i : ℕ) → i < count_trailing_zeros k (n / 2) → bit i (n / 2) ≡ 0)
            → (i : ℕ) → i < suc (count_trailing_zeros k (n / 2)) → bit i n ≡ 0
        behind c zero l = last n ∙ e
        behind c (suc i) l = half i n ∙ c i (omega arith)
    go (suc d) e ih = rw e (record { below = omega arith; one = last n ∙ omega arith; zeros = λ i l. absurd (omega arith) })

-- ---- the bits of a word

abbrev pub as_bit : Bool → ℕ
as_bit b = cond b 1 0

module _ (passes : ℕ → Bool) where
  here : (n : ℕ) → bit n (cond (passes n) (2 ^ n) 0) ≡ as_bit (passes n)
  here n = go (passes n)
    where
      go : (b : Bool) → bit n (cond b (2 ^ n) 0) ≡ as_bit b
      go true = bit_same n
      go false = bit_of_zero n

  elsewhere : (n i : ℕ) → i ≢ n → bit i (cond (passes n) (2 ^ n) 0) ≡ 0
  elsewhere n i l = go (passes n)
    where
      go : (b : Bool) → bit i (cond b (2 ^ n) 0) ≡ 0
      go true = bit_other i n l
      go false = bit_of_zero i

  -- n numbers need n bits
  pub word_fits : (n : ℕ) → word n passes < 2 ^ n
  unfolding word
  word_fits zero = pow_pos 0
  word_fits (suc n) = or_lt (suc n) (word n passes) _ (omega (arith, word_fits n, pow-suc 2 n)) (less (passes n))
    where
      less : (b : Bool) → cond b (2 ^ n) 0 < 2 ^ suc n
      less true = pow-lt (omega arith)
      less false = pow_pos (suc n)

  pub word_past : (n i : ℕ) → n ≤ i → bit i (word n passes) ≡ 0
  word_past n i l = ap (λ q. q % 2) (div-eq_of_lt (omega (arith, word_fits n, pow_mono l)))

  -- a bit is set exactly where its number passes
  pub word_bit : (n i : ℕ) → i < n → bit i (word n passes) ≡ as_bit (passes i)
  unfolding word
  word_bit zero i l = absurd (omega arith)
  word_bit (suc n) i l = bit_or_lem i (word n passes) _ ∙ go (eqb i n) refl (word_bit n i)
    where
      go : (c : Bool) → eqb i n ≡ c → (i < n → bit i (word n passes) ≡ as_bit (passes i))
          → max (bit i (word n passes)) (bit i (cond (passes n) (2 ^ n) 0)) ≡ as_bit (passes i)
      go true e ih = let same = eqb-true i n e in rw same (rw (word_past n n (omega arith), here n) (omega arith))
      go false e ih = let other : i ≢ n = eqb-false i n e in rw (ih (omega arith), elsewhere n i other) (omega arith)

  -- a bit that is set is a number that passes, and one that is not set is not
  pub word_set : (n i : ℕ) → bit i (word n passes) ≡ 1 → i < n → passes i ≡ true
  word_set n i e l = go (passes i) (sym (word_bit n i l) ∙ e)
    where
      go : (b : Bool) → as_bit b ≡ 1 → b ≡ true
      go true h = refl
      go false h = absurd (omega arith)

  pub word_clear : (n i : ℕ) → bit i (word n passes) ≡ 0 → i < n → passes i ≡ false
  word_clear n i e l = go (passes i) (sym (word_bit n i l) ∙ e)
    where
      go : (b : Bool) → as_bit b ≡ 0 → b ≡ false
      go true h = absurd (omega arith)
      go false h = refl

  -- where a number passes, the word is not empty
  pub word_some : (n i : ℕ) → i < n → passes i ≡ true → word n passes ≢ 0
  word_some n i l h e = false≢true (sym (word_clear n i (ap (bit i) e ∙ bit_of_zero i) l) ∙ h)

  -- ---- who is lowest, in a word of k bits

  module _ (n : ℕ) (fits : n ≤ nobody) where
    -- the empty word: nobody
    pub empty_word : word n passes ≡ 0 → nobody ≡ lowest n passes
    empty_word e = ⊎_elim (λ q. sym q.0) (λ q. absurd (word_some n _ q.below q.passing e)) (lowest_is passes n fits)

    -- any other: the place of its lowest set bit
    pub lowest_bit : (k : ℕ) → n ≤ k → word n passes ≢ 0 → count_trailing_zeros k (word n passes) ≡ lowest n passes
    lowest_bit k w z = ⊎_elim (λ q. absurd (false≢true (sym (q.1 t there) ∙ passing))) found (lowest_is passes n fits)
      where
        t : ℕ
        t = count_trailing_zeros k (word n passes)

        bits : LowestBit k (word n passes) t
        bits = trailing_lowest k (word n passes) (omega (arith, word_fits n, pow_mono w)) z

        there : t < n
        there = go (ltb t n) refl
          where
            go : (b : Bool) → ltb t n ≡ b → t < n
            go true e = ltb-true t n e
            go false e = let no = word_past n t (ltb-false t n e) in absurd (omega (arith, bits.one))

        passing : passes t ≡ true
        passing = word_set n t bits.one there

        found : Lowest n passes → t ≡ lowest n passes
        found q = go (ltb (lowest n passes) t) refl
          where
            go : (b : Bool) → ltb (lowest n passes) t ≡ b → t ≡ lowest n passes
            go true e =
                let no = word_clear n _ (bits.zeros _ (ltb-true (lowest n passes) t e)) q.below in
                absurd (false≢true (sym no ∙ q.passing))
            go false e = let l = ltb-false (lowest n passes) t e in omega (arith, q.least t passing)

-- ---- as the code has it

-- the empty word, and any other
module _ (n : ℕ) (passes : ℕ → Bool) {w : ℕ} (is : w ≡ word n passes) (fits : n ≤ nobody) where
  pub empty_is : w ≡ 0 → nobody ≡ lowest n passes
  empty_is e = empty_word passes n fits (sym is ∙ e)

  pub trailing_is : (k : ℕ) → n ≤ k → w ≢ 0 → count_trailing_zeros k w ≡ lowest n passes
  trailing_is k l z = rw is (lowest_bit passes n fits k l (λ e. z (is ∙ e)))

-- one number more
pub word_again : (i : ℕ) (passes : ℕ → Bool) (w x : ℕ) {b : Bool} → w ≡ word i passes → b ≡ passes i → x ≡ cond b (2 ^ i) 0
    → bit_or w x ≡ word (i + 1) passes
unfolding word
word_again i passes w x e f h = rw (add-one, e, h, f)
