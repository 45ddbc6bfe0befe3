-- Laws of scans of the store without a branch: joined bits, the stretches that cover what lies behind a queue, and the scans for zeros and for
-- criteria in range, which are folds. They speak of the list of entries, whatever their width.
use Rattle.std.proofs.Common.{ℕ, zero, suc, ◌+◌, ◌*◌, ◌^◌, ◌<◌, ◌≤◌, ◌-◌, max, min, ◌≡◌, refl, sym, ap, ap₂, ◌∙◌, Bool, true, false, ◌&&◌, List, [], ◌∷◌, arith, bit_or, ltb, leb, length, take, drop_of_length-le, length-take, eqb-true, eq-eqb, ltb-true, lt-ltb, leb-true, leb-false}
use mathlib.Core.Bool.{and_assoc, and-true}
use lib.Bits.{or_add_and, and_le_l, and_le_r, or_lt}
use lib.Seq.{slice}
use Rattle.std.specs.List.{fold, slice_range}
use Rattle.rules.proofs.Store.{slice_is}
use Rattle.rules.specs.Words.{is_zero, every}
use Rattle.rules.specs.Validity.{criterion_in_range, criteria_in_range}
use Rattle.rules.proofs.Bools.{and_left, and_right, and_swap, both, same_test}
use Rattle.queues.specs.Zeros.{zero_part}

-- ---- joined bits

-- they are 0 where all are
pub or_zero : (a b : ℕ) → is_zero (bit_or a b) ≡ (is_zero a && is_zero b)
or_zero a b =
    let sum = or_add_and a b in
    let l = and_le_l a b in
    let r = and_le_r a b in
    same_test (is_zero (bit_or a b)) (is_zero a && is_zero b)
    (λ h. let z = eqb-true (bit_or a b) 0 h in both (eq-eqb a 0 (omega arith)) (eq-eqb b 0 (omega arith)))
    (λ h.
    let x = eqb-true a 0 (and_left (is_zero a) (is_zero b) h) in
    let y = eqb-true b 0 (and_right (is_zero a) (is_zero b) h) in
    eq-eqb (bit_or a b) 0 (omega arith))

-- joined bits lie below a power of two where all do
pub or_below : (k a b : ℕ) → ltb (bit_or a b) (2 ^ k) ≡ (ltb a (2 ^ k) && ltb b (2 ^ k))
or_below k a b =
    let m = 2 ^ k in
    let sum = or_add_and a b in
    let l = and_le_l a b in
    let r = and_le_r a b in
    same_test (ltb (bit_or a b) m) (ltb a m && ltb b m)
    (λ h. let z = ltb-true (bit_or a b) m h in both (lt-ltb a m (omega arith)) (lt-ltb b m (omega arith)))
    (λ h.
    let x = ltb-true a m (and_left (ltb a m) (ltb b m) h) in
    let y = ltb-true b m (and_right (ltb a m) (ltb b m) h) in
    lt-ltb (bit_or a b) m (or_lt k a b x y))

-- ---- two parts that meet or overlap

-- what is tested twice is tested once
twice : (a b c : Bool) → (b && c) ≡ c → ((a && b) && (a && c)) ≡ (a && c)
twice true b c h = h
twice false b c h = refl

slice_nil {ℓ} : {A : Type ℓ} (a c : ℕ) (l : List A) → length l ≡ 0 → slice a c l ≡ []
slice_nil a c l e = let short : length (take c l) ≤ a = rw length-take (omega arith) in drop_of_length-le (take c l) short

-- they cover the whole
module _ {ℓ} {A : Type ℓ} (p : A → Bool) where
  pub covered : (a b c d : ℕ) (l : List A) → a ≤ b → b ≤ c → c ≤ d
      → (every p (slice a c l) && every p (slice b d l)) ≡ every p (slice a d l)
  unfolding every
  covered a b c d [] h i j = rw (slice_nil a c [] refl, slice_nil b d [] refl, slice_nil a d [] refl) refl
  covered zero zero zero d (x ∷ xs) h i j = refl
  covered zero zero (suc c) zero (x ∷ xs) h i j = absurd (omega arith)
  covered zero zero (suc c) (suc d) (x ∷ xs) h i j =
      twice (p x) _ _ (covered zero zero c d xs h (omega arith) (omega arith))
  covered zero (suc b) zero d (x ∷ xs) h i j = absurd (omega arith)
  covered zero (suc b) (suc c) zero (x ∷ xs) h i j = absurd (omega arith)
  covered zero (suc b) (suc c) (suc d) (x ∷ xs) h i j =
      and_assoc (p x) _ _ ∙ ap (λ r. p x && r) (covered zero b c d xs (omega arith) (omega arith) (omega arith))
  covered (suc a) zero c d (x ∷ xs) h i j = absurd (omega arith)
  covered (suc a) (suc b) zero d (x ∷ xs) h i j = absurd (omega arith)
  covered (suc a) (suc b) (suc c) zero (x ∷ xs) h i j = absurd (omega arith)
  covered (suc a) (suc b) (suc c) (suc d) (x ∷ xs) h i j = covered a b c d xs (omega arith) (omega arith) (omega arith)

-- and so they do of elements and criteria together
zeros_cover : (es cs : List ℕ) (a b c d : ℕ) → a ≤ b → b ≤ c → c ≤ d → (zero_part es cs a c && zero_part es cs b d) ≡ zero_part es cs a d
unfolding zero_part
zeros_cover es cs a b c d h i j =
    and_swap (every is_zero (slice a c es)) (every is_zero (slice a c cs)) (every is_zero (slice b d es)) (every is_zero (slice b d cs))
    ∙ ap₂ ◌&&◌ (covered is_zero a b c d es h i j) (covered is_zero a b c d cs h i j)

-- four stretches of k places cover what lies behind a queue that starts there, where that is as much as one of them
module _ (es cs : List ℕ) (k start first second third : ℕ) {a b c d : Bool} where
  pub four_cover : start ≤ first → first ≤ start + 3 * k → second ≡ max first (start + k) → third ≡ max first (start + 2 * k)
      → a ≡ zero_part es cs first (first + k) → b ≡ zero_part es cs second (second + k) → c ≡ zero_part es cs third (third + k)
      → d ≡ zero_part es cs (start + 3 * k) (start + 4 * k) → (a && (b && (c && d))) ≡ zero_part es cs first (start + 4 * k)
  four_cover h i e f ea eb ec ed =
      rw (
        ea,
        eb,
        ec,
        ed,
        zeros_cover es cs third (start + 3 * k) (third + k) (start + 4 * k) (omega (arith, f)) (omega (arith, f)) (omega (arith, f)),
        zeros_cover es cs second third (second + k) (start + 4 * k) (omega (arith, e, f)) (omega (arith, e, f)) (omega (arith, e, f)),
        zeros_cover es cs first second (first + k) (start + 4 * k) (omega (arith, e)) (omega (arith, e)) (omega (arith, e)),
      )
      refl

-- ---- a scan: a test that joined bits pass where all do

module _ (p : ℕ → Bool) (joins : (a b : ℕ) → p (bit_or a b) ≡ (p a && p b)) where
  joined : (a : ℕ) (l : List ℕ) → p (fold bit_or a l) ≡ (p a && every p l)
  unfolding every
  joined a [] = sym (and-true (p a))
  joined a (x ∷ xs) = joined (bit_or a x) xs ∙ ap (λ b. b && every p xs) (joins a x) ∙ and_assoc (p a) (p x) (every p xs)

-- a part whose bits are 0
part_joined : (l : List ℕ) (from to : ℕ) → from ≤ to → is_zero (fold bit_or 0 (slice_range l from to)) ≡ every is_zero (slice from to l)
part_joined l from to h =
    let part : slice_range l from to ≡ slice from to l = sym (ap (λ k. slice from k l) (omega arith) ∙ slice_is from (to - from) l) in
    joined is_zero or_zero 0 (slice_range l from to) ∙ ap (every is_zero) part

pub both_zero : (es cs : List ℕ) (from to e c : ℕ) → from ≤ to → e ≡ fold bit_or 0 (slice_range es from to) → c ≡ fold bit_or 0 (slice_range cs from to)
    → (is_zero e && is_zero c) ≡ zero_part es cs from to
unfolding zero_part
both_zero es cs from to e c h x y = rw (x, y, part_joined es from to h, part_joined cs from to h) refl

-- the end of the criteria is 2 ^ 4
pub criteria_joined : (l : List ℕ) (bits : ℕ) → bits ≡ fold bit_or 0 l → ltb bits 16 ≡ criteria_in_range l
unfolding criteria_in_range
criteria_joined l bits e = rw e (joined criterion_in_range (or_below 4) 0 l)

-- a part past its end has nothing in it, wherever it begins
pub past_end : (es cs : List ℕ) (from to : ℕ) → zero_part es cs (min from to) to ≡ zero_part es cs from to
unfolding zero_part
past_end es cs from to = ap₂ (λ a b. every is_zero a && every is_zero b) (part es) (part cs)
  where
    nothing : (i : ℕ) (l : List ℕ) → to ≤ i → slice i to l ≡ []
    nothing i l h = let short : length (take to l) ≤ i = rw length-take (omega arith) in drop_of_length-le (take to l) short

    part : (l : List ℕ) → slice (min from to) to l ≡ slice from to l
    part l = go (leb from to) refl
      where
        go : (b : Bool) → leb from to ≡ b → slice (min from to) to l ≡ slice from to l
        go true h = ap (λ n. slice n to l) (omega (arith, leb-true from to h))
        go false h =
            let past : to < from = leb-false from to h in nothing (min from to) l (omega arith) ∙ sym (nothing from l (omega arith))
