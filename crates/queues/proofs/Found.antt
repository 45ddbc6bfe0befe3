-- Laws of the search for an element in a part of the store: the largest criterion by a fold, and the first place of a criterion.
use Rattle.std.proofs.Common.{◌≡◌, ℕ, ◌+◌, ◌<◌, ◌≤◌, max, Bool, true, false, cond, List, [], ◌∷◌, Some, None, length, eqb, sym, refl, ap, ◌∙◌, position, arith, ◌-◌, ◌⊎◌, inl, inr, lt-ltb, le-leb, le-ltb, ltb-true, ltb-false}
use mathlib.Core.Bool.{and-false}
use borrow.Author.Tests.{lt-leb}
use Rattle.rules.proofs.Store.{slice_is}
use Rattle.std.specs.List.{fold, slice_range, position_or_len}
use Rattle.std.proofs.lemmas.List.Recursion.{is_position_or_len}
use Rattle.std.proofs.Math.Seq.{slice}
use Rattle.rules.specs.Numbers.{store_size}
use Rattle.rules.specs.Queues.{largest, wanted, before}
use Rattle.queues.specs.Places.{place_in, unless_end}

folded : (a : ℕ) (l : List ℕ) → fold max a l ≡ max a (largest l)
unfolding largest
folded a [] = omega arith
folded a (x ∷ xs) = folded (max a x) xs ∙ omega arith

pub largest_folded : (l : List ℕ) → fold max 0 l ≡ largest l
largest_folded l = folded 0 l ∙ omega arith

-- how many stand before the oldest, as std counts them
before_is : (k : ℕ) (l : List ℕ) → before k l ≡ position_or_len (λ x. eqb x k) l
unfolding before
before_is k l = is_position_or_len (before k) (λ x. eqb x k) refl (λ x xs. ap (cond (eqb x k) 0) (omega arith)) l

-- a place at its end or behind it is none
at_end : (to place : ℕ) → to ≤ place → None ≡ unless_end to place
at_end to place h = rw (le-ltb place to h)

none_by : (b : Bool) (n : ℕ) → None ≡ cond b (Some n) None → b ≡ false
none_by true n e = absurd (cc)
none_by false n e = refl

pub some_by : (b : Bool) (n : ℕ) {i : ℕ} → Some i ≡ cond b (Some n) None → (b ≡ true) × (i ≡ n)
some_by true n e = (refl, cc)
some_by false n e = absurd (cc)

-- ---- the part from..to of the store l

module _ (from to c : ℕ) (l : List ℕ) where
  -- one that is not there
  pub no_part : (to < from) ⊎ (length l < to) → length l ≡ store_size → None ≡ unless_end to (place_in from to c l)
  unfolding place_in
  no_part (inl h) long = rw (lt-leb from to h) (at_end to to (omega arith))
  no_part (inr h) long = let past : store_size < to = omega arith in rw (lt-leb to store_size past, and-false) (at_end to to (omega arith))

  module _ (h : from ≤ to) (fits : to ≤ length l) (long : length l ≡ store_size) {part : List ℕ} (is : part ≡ slice_range l from to)
      (count : length part + from ≡ to) {w : ℕ} (wants : w ≡ wanted c part) where
    place_is_lem : place_in from to c l ≡ from + position_or_len (λ x. eqb x w) part
    unfolding place_in
    place_is_lem =
        let within : to ≤ store_size = omega arith in
        let read : slice from to l ≡ part = ap (λ k. slice from k l) (omega arith) ∙ slice_is from (to - from) l ∙ sym is in
        rw (le-leb from to h, le-leb to store_size within, read, ← wants, before_is) refl

    -- none fits
    pub none_found : None ≡ position (λ x. eqb x w) part → None ≡ unless_end to (place_in from to c l)
    none_found e =
        let past = ltb-false _ _ (none_by _ _ e) in
        at_end to (place_in from to c l) (omega (arith, place_is_lem))

    pub one_found : {i : ℕ} → Some i ≡ position (λ x. eqb x w) part → Some (from + i) ≡ unless_end to (place_in from to c l)
    one_found {i} e =
        let it = some_by _ _ e in
        let before : i < length part = omega (arith, ltb-true _ _ it.0, it.1) in
        let place : place_in from to c l ≡ from + i = place_is_lem ∙ ap (λ k. from + k) (sym it.1) in
        rw (place, lt-ltb (from + i) to (omega arith)) refl
