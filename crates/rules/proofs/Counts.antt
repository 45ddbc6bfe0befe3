-- Laws of tests over every number below a bound: below, within and past.
use Prim.Native.Nat.{ℕ, zero, suc, ◌+◌, ◌<◌, ◌≤◌}
use mathlib.Core.Path.{◌≡◌, refl, sym, ap, ◌∙◌}
use mathlib.Core.Logic.{◌≢◌}
use mathlib.Core.Bool.{Bool, true, false, not, ◌&&◌, ◌||◌}
use mathlib.Core.List.{List, map}
use native.Mathlib.Omega.{arith}
use native.Mathlib.Numerals.{add-one}
use lib.Dec.{eqb, ltb}
use lib.ListN.{length}
use borrow.Author.Rules.{rules, length_unmapped}
use borrow.Author.Tests.{eqb-true, eqb-false, eq-eqb, ne_eqb, lt-ltb, le-ltb, le-leb, lt-leb, ltb-true, ltb-false}
use Rattle.rules.specs.Words.{below, within, past}
use Rattle.rules.proofs.Bools.{and_left, and_right, both}

-- one number more, as a loop counts
pub below_more : (i : ℕ) (p : ℕ → Bool) → below (i + 1) p ≡ (below i p && p i)
unfolding below
below_more i p = rw add-one

pub below_at : (p : ℕ → Bool) (n k : ℕ) → below n p ≡ true → k < n → p k ≡ true
unfolding below
below_at p zero k h l = absurd (omega arith)
below_at p (suc n) k h l = go (eqb k n) refl (below_at p n k (and_left (below n p) (p n) h))
  where
    go : (b : Bool) → eqb k n ≡ b → (k < n → p k ≡ true) → p k ≡ true
    go true e ih = rw (eqb-true k n e) (and_right (below n p) (p n) h)
    go false e ih = let ne : k ≢ n = eqb-false k n e in ih (omega arith)

pub below_all : (p : ℕ → Bool) (n : ℕ) → ((k : ℕ) → k < n → p k ≡ true) → below n p ≡ true
unfolding below
below_all p zero h = refl
below_all p (suc n) h = both (below_all p n (λ k l. h k (omega arith))) (h n (omega arith))

module _ (n room : ℕ) (p : ℕ → Bool) where
  pub within_at : (i : ℕ) → within n room p ≡ true → i < n → i < room → p i ≡ true
  within_at i h k l = simp (lt-ltb i n k) at (below_at (λ j. not (ltb j n) || p j) room i h l)

  pub within_all : ((i : ℕ) → i < n → i < room → p i ≡ true) → within n room p ≡ true
  within_all h = below_all (λ j. not (ltb j n) || p j) room (λ j l. go j l (ltb j n) refl)
    where
      go : (j : ℕ) → j < room → (b : Bool) → ltb j n ≡ b → (not (ltb j n) || p j) ≡ true
      go j l true e = rw e (h j (ltb-true j n e) l)
      go j l false e = rw e refl

  pub past_at : (i : ℕ) → past n room p ≡ true → n ≤ i → i < room → p i ≡ true
  past_at i h k l = simp (le-ltb i n k) at (below_at (λ j. ltb j n || p j) room i h l)

  pub past_all : ((i : ℕ) → n ≤ i → i < room → p i ≡ true) → past n room p ≡ true
  past_all h = below_all (λ j. ltb j n || p j) room (λ j l. go j l (ltb j n) refl)
    where
      go : (j : ℕ) → j < room → (b : Bool) → ltb j n ≡ b → (ltb j n || p j) ≡ true
      go j l true e = rw e refl
      go j l false e = rw e (h j (ltb-false j n e) l)

-- ---- as loops need it

-- one number more passes
pub below_again : (i : ℕ) (p : ℕ → Bool) (ok here : Bool) → ok ≡ below i p → here ≡ p i → (ok && here) ≡ below (i + 1) p
below_again i p ok here e h = rw (e, h) (sym (below_more i p))

-- what is known at the count where a loop ends
pub at_end {ℓ} : {A : Type ℓ} (f : ℕ → A) (i n : ℕ) {x : A} → x ≡ f i → i ≤ n → n ≤ i → x ≡ f n
at_end f i n e l k = let same : i ≡ n = omega arith in e ∙ ap f same

pub below_end : (i n : ℕ) (p : ℕ → Bool) (ok : Bool) → ok ≡ below i p → i ≤ n → n ≤ i → ok ≡ below n p
below_end i n p ok e l k = at_end (λ m. below m p) i n e l k

-- the end of an array of known length
pub past_length : (X : Type 0) (l : List X) (i n : ℕ) → length l ≡ n → n ≤ i → length l ≤ i
past_length X l i n e p = omega arith

pub past_field : (X : Type 0) (l : List X) (i n : ℕ) → length (map (λ (v : X). v) l) ≡ n → n ≤ i → length l ≤ i
past_field X l i n e p = past_length X l i n (length_unmapped X l n e) p

pub within_length : (X : Type 0) (l : List X) (i n : ℕ) → length l ≡ n → i ≤ n → i ≤ length l
within_length X l i n e p = omega arith

-- rules for `search`: the end of an array; what a test computes to
pub ruleset ends = (past_length, within_length, past_field, rules)

pub ruleset tests = (lt-ltb, le-ltb, le-leb, lt-leb, eq-eqb, ne_eqb, rules)
