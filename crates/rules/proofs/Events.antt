-- Laws of event lists: what arrives has arrived, in any order and however often; more events never unmeet a condition.
use Prim.Native.Nat.{ℕ, zero, suc, ◌-◌, ◌^◌, ◌<◌, ◌≤◌, min, max}
use mathlib.Core.Path.{◌≡◌, refl, sym, ap, ◌∙◌}
use mathlib.Core.Logic.{◌≢◌, ◌↔◌}
use mathlib.Core.Bool.{Bool, true, false, not, ◌&&◌}
use native.Mathlib.Omega.{arith}
use lib.Dec.{eqb, eqb-suc-zero}
use lib.Pow.{pow-lt}
use lib.Bits.{bit_and, bit_or, bit_xor, or_comm, or_lt, or_self, or_add_and, xor_add_and, and_le_l, and_le_r}
use borrow.Author.Tests.{eqb-true, eqb-false, eq-eqb, ne_eqb, not-true}
use Rattle.rules.specs.Words.{is_zero}
use Rattle.rules.specs.Events.{has, met, arrive, cleared}
use Rattle.rules.proofs.Bools.{not_intro}
use Rattle.rules.proofs.Bits.{bit, bit_of_zero, same_bits, some_bit, bit_and_lem, bit_or_lem, bit_xor_lem, bit_same, bit_other, or_assoc, and_or, or_and}

-- ---- an event arrives

-- that an event comes twice doesn't matter, nor the order of two
pub arrive_twice : (e a : ℕ) → arrive e (arrive e a) ≡ arrive e a
unfolding arrive
arrive_twice e a = or_assoc a (2 ^ e) (2 ^ e) ∙ ap (bit_or a) (or_self (2 ^ e))

pub arrive_comm : (d e a : ℕ) → arrive d (arrive e a) ≡ arrive e (arrive d a)
unfolding arrive
arrive_comm d e a =
    or_assoc a (2 ^ e) (2 ^ d) ∙ ap (bit_or a) (or_comm (2 ^ e) (2 ^ d)) ∙ sym (or_assoc a (2 ^ d) (2 ^ e))

-- in words of single events: the event itself has arrived, the others as before
pub has_arrived : (e a : ℕ) → has e (arrive e a) ≡ true
unfolding has arrive
has_arrived e a = eq-eqb _ _ (bit_or_lem e a (2 ^ e) ∙ omega (arith, bit_same e))

pub has_other : (i e a : ℕ) → i ≢ e → has i (arrive e a) ≡ has i a
unfolding has arrive
has_other i e a n =
    let same : max (bit i a) (bit i (2 ^ e)) ≡ bit i a = omega (arith, bit_other i e n) in
    ap (λ b. eqb b 1) (bit_or_lem i a (2 ^ e) ∙ same)

-- an event list stays one
pub arrive_lt : (width e a : ℕ) → e < width → a < 2 ^ width → arrive e a < 2 ^ width
unfolding arrive
arrive_lt width e a h k = or_lt width a (2 ^ e) k (pow-lt h)

-- ---- events are cleared

pub cleared_le : (l a : ℕ) → cleared l a ≤ a
unfolding cleared
cleared_le l a = omega arith

pub has_cleared : (i l a : ℕ) → has i (cleared l a) ≡ (has i a && not (has i l))
unfolding has cleared
has_cleared i l a =
    let again : bit_and a (bit_and a l) ≡ bit_and a l = same_bits _ _ (λ j. simp bit_and_lem (omega arith)) in
    let taken : a - bit_and a l ≡ bit_xor a (bit_and a l) = omega (arith, xor_add_and a (bit_and a l)) in
    let here = bit_xor_lem i a (bit_and a l) ∙ ap (λ b. max (bit i a) b - min (bit i a) b) (bit_and_lem i a l) in
    ap (λ b. eqb b 1) (ap (bit i) taken ∙ here) ∙ digit (bit i a) (bit i l) (omega arith) (omega arith)
  where
    digit : (x y : ℕ) → x < 2 → y < 2 → eqb (max x (min x y) - min x (min x y)) 1 ≡ (eqb x 1 && not (eqb y 1))
    digit zero y h k = ne_eqb (max 0 (min 0 y) - min 0 (min 0 y)) 1 (omega arith)
    digit (suc zero) zero h k = refl
    digit (suc zero) (suc zero) h k = refl
    digit (suc zero) (suc (suc y)) h k = absurd (omega arith)
    digit (suc (suc x)) y h k = absurd (omega arith)

-- ---- the condition

-- "all": every listed event has arrived
pub met_all : (l a : ℕ) → (met 0 l a ≡ true) ↔ ((i : ℕ) → has i l ≡ true → has i a ≡ true)
unfolding met has
met_all l a = (then, back)
  where
    then : eqb (bit_and l a) l ≡ true → (i : ℕ) → eqb (bit i l) 1 ≡ true → eqb (bit i a) 1 ≡ true
    then h i e =
        let one = eqb-true (bit i l) 1 e in
        let same : min (bit i l) (bit i a) ≡ bit i l = sym (bit_and_lem i l a) ∙ ap (bit i) (eqb-true (bit_and l a) l h) in
        eq-eqb (bit i a) 1 (omega arith)

    back : ((i : ℕ) → eqb (bit i l) 1 ≡ true → eqb (bit i a) 1 ≡ true) → eqb (bit_and l a) l ≡ true
    back h = eq-eqb (bit_and l a) l (same_bits (bit_and l a) l (λ i. bit_and_lem i l a ∙ go i (eqb (bit i l) 1) refl))
      where
        go : (i : ℕ) (b : Bool) → eqb (bit i l) 1 ≡ b → min (bit i l) (bit i a) ≡ bit i l
        go i true e = let x = eqb-true (bit i l) 1 e in let y = eqb-true (bit i a) 1 (h i e) in omega arith
        go i false e = let n : bit i l ≢ 1 = eqb-false (bit i l) 1 e in omega arith

-- "any": one of them has
pub met_any : (o l a : ℕ) → (met (suc o) l a ≡ true) ↔ ((i : ℕ) × (has i l ≡ true) × (has i a ≡ true))
unfolding met has
met_any o l a = (λ h. then (simp eqb-suc-zero at h), λ q. simp eqb-suc-zero (back q))
  where
    then : not (is_zero (bit_and l a)) ≡ true → (i : ℕ) × (eqb (bit i l) 1 ≡ true) × (eqb (bit i a) 1 ≡ true)
    then h =
        let q = some_bit (bit_and l a) (eqb-false (bit_and l a) 0 (not-true _ h)) in
        let i = q.0 in
        let one : min (bit i l) (bit i a) ≡ 1 = sym (bit_and_lem i l a) ∙ q.1 in
        (i, eq-eqb (bit i l) 1 (omega arith), eq-eqb (bit i a) 1 (omega arith))

    back : ((i : ℕ) × (eqb (bit i l) 1 ≡ true) × (eqb (bit i a) 1 ≡ true)) → not (is_zero (bit_and l a)) ≡ true
    back q =
        let i = q.0 in
        let x = eqb-true (bit i l) 1 q.1 in
        let y = eqb-true (bit i a) 1 q.2 in
        let one : bit i (bit_and l a) ≡ 1 = bit_and_lem i l a ∙ omega arith in
        not_intro _ (ne_eqb (bit_and l a) 0 (λ z. let none : ◌≡◌ {A = ℕ} 1 0 = sym one ∙ ap (bit i) z ∙ bit_of_zero i in absurd (omega arith)))

-- more events never unmeet it
pub met_more : (o l e a : ℕ) → met o l a ≡ true → met o l (arrive e a) ≡ true
unfolding met arrive
met_more zero l e a h = eq-eqb _ _ (and_or l a (2 ^ e) ∙ simp (eqb-true (bit_and l a) l h, or_and))
met_more (suc o) l e a h = simp (eqb-suc-zero, and_or) (more (bit_and l a) (bit_and l (2 ^ e)) (simp eqb-suc-zero at h))
  where
    zero_left : (x y : ℕ) → bit_or x y ≡ 0 → x ≡ 0
    zero_left x y z = omega (arith, or_add_and x y, and_le_l x y, and_le_r x y)

    more : (x y : ℕ) → not (is_zero x) ≡ true → not (is_zero (bit_or x y)) ≡ true
    more x y k = not_intro _ (ne_eqb (bit_or x y) 0 (λ z. eqb-false x 0 (not-true (is_zero x) k) (zero_left x y z)))
