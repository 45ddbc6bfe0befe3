-- Laws of the holders: the first occupied region's entry is one of the list, and is 0 exactly where every region is free; who holds an open one.
use Prim.Native.Nat.{ℕ, zero, suc, ◌<◌}
use mathlib.Core.Path.{◌≡◌, refl, sym, ◌∙◌}
use mathlib.Core.Logic.{◌≢◌, ◌⊎◌, inl, inr, ⊎_elim}
use mathlib.Core.Bool.{Bool, true, false, cond, not, true≢false, false≢true}
use mathlib.Core.List.{List, [], ◌∷◌}
use native.Mathlib.Omega.{arith}
use lib.ListN.{get_or, length}
use borrow.Author.Tests.{eqb-true, eqb-false, eq-eqb, not-true}
use Rattle.rules.specs.Numbers.{region_room}
use Rattle.rules.specs.Words.{is_zero, below}
use Rattle.rules.specs.Regions.{held}
use Rattle.rules.specs.Urgency.{is_open, closed_holders, holding, holds_open}
use Rattle.rules.proofs.Counts.{below_at}
use Rattle.rules.proofs.States.{closed_at, length_closed}

pub held_at : (hs : List ℕ) → (held hs ≡ 0) ⊎ ((i : ℕ) × (i < length hs) × (get_or hs i 0 ≡ held hs))
unfolding held
held_at [] = inl refl
held_at (h ∷ hs) = go (is_zero h) refl (held_at hs)
  where
    go : (b : Bool) → is_zero h ≡ b → (held hs ≡ 0) ⊎ ((i : ℕ) × (i < length hs) × (get_or hs i 0 ≡ held hs))
        → (held (h ∷ hs) ≡ 0) ⊎ ((i : ℕ) × (i < length (h ∷ hs)) × (get_or (h ∷ hs) i 0 ≡ held (h ∷ hs)))
    go false e ih = rw e (inr (0, omega arith, refl))
    go true e (inl z) = rw e (inl z)
    go true e (inr q) = rw e (inr (suc q.0, omega (arith, q.1), q.2))

pub held_free : (hs : List ℕ) → held hs ≡ 0 → (i : ℕ) → get_or hs i 0 ≡ 0
unfolding held
held_free [] z i = refl
held_free (h ∷ hs) z i = go (is_zero h) refl i (held_free hs)
  where
    go : (b : Bool) → is_zero h ≡ b → (i : ℕ) → (held hs ≡ 0 → (j : ℕ) → get_or hs j 0 ≡ 0) → get_or (h ∷ hs) i 0 ≡ 0
    go false e i ih = absurd (false≢true (sym e ∙ eq-eqb h 0 (rw e at z)))
    go true e zero ih = eqb-true h 0 e
    go true e (suc i) ih = ih (rw e at z) i

-- where an entry of every occupied region stays, a closed region stays occupied
pub closed_still : (opened hs hs' : List ℕ) → ((i : ℕ) → i < region_room → get_or hs i 0 ≢ 0 → get_or hs' i 0 ≢ 0)
    → held (closed_holders opened hs') ≡ 0 → held (closed_holders opened hs) ≡ 0
closed_still opened hs hs' still none = ⊎_elim (λ z. z) at (held_at (closed_holders opened hs))
  where
    at : (i : ℕ) × (i < length (closed_holders opened hs)) × (get_or (closed_holders opened hs) i 0 ≡ held (closed_holders opened hs)) → held (closed_holders opened hs) ≡ 0
    at q = go (is_open (get_or opened q.0 0)) refl (is_zero (get_or hs q.0 0)) refl
      where
        k : q.0 < region_room
        k = omega (arith, q.1, length_closed opened hs)

        before : cond (is_open (get_or opened q.0 0)) 0 (get_or hs q.0 0) ≡ held (closed_holders opened hs)
        before = sym (closed_at opened hs q.0 k) ∙ q.2

        after : cond (is_open (get_or opened q.0 0)) 0 (get_or hs' q.0 0) ≡ 0
        after = sym (closed_at opened hs' q.0 k) ∙ held_free (closed_holders opened hs') none q.0

        go : (b : Bool) → is_open (get_or opened q.0 0) ≡ b → (c : Bool) → is_zero (get_or hs q.0 0) ≡ c → held (closed_holders opened hs) ≡ 0
        go true e c f = sym (rw e at before)
        go false e true f = sym (rw e at before) ∙ eqb-true _ 0 f
        go false e false f = absurd (still q.0 k (eqb-false _ 0 f) (rw e at after))

-- ---- who holds an open region

module _ (opened holder : List ℕ) (i : ℕ) where
  pub holds_open_lem : (r : ℕ) → r < region_room → holding opened holder i r ≡ true → holds_open opened holder i ≡ true
  unfolding holds_open
  holds_open_lem r k h = go (below region_room (λ q. not (holding opened holder i q))) refl
    where
      go : (b : Bool) → below region_room (λ q. not (holding opened holder i q)) ≡ b → not b ≡ true
      go true e = absurd (true≢false (sym h ∙ not-true _ (below_at (λ q. not (holding opened holder i q)) region_room r e k)))
      go false e = refl

  pub holds_none : holds_open opened holder i ≡ false → (r : ℕ) → r < region_room → holding opened holder i r ≡ false
  holds_none n r k = go (holding opened holder i r) refl
    where
      go : (b : Bool) → holding opened holder i r ≡ b → b ≡ false
      go true e = absurd (true≢false (sym (holds_open_lem r k e) ∙ n))
      go false e = refl
