-- What RETRIEVE takes, in words of every element of the queue: the oldest of its criterion, and for 16 of the largest present.
use Prim.Native.Nat.{ℕ, zero, suc, ◌<◌, ◌≤◌}
use mathlib.Core.Path.{◌≡◌, refl, ◌∙◌}
use mathlib.Core.Logic.{◌≢◌, ◌↔◌}
use mathlib.Core.Bool.{Bool, true, false}
use mathlib.Core.List.{List, [], ◌∷◌}
use native.Mathlib.Omega.{arith}
use native.Mathlib.Nat.{le_of_suc-le-suc}
use lib.Dec.{eqb, ltb}
use lib.ListN.{get_or, length, length-map}
use borrow.Author.Tests.{eqb-true, eqb-false, ltb-true, ltb-false, leb-true, le-leb}
use Rattle.rules.specs.Queues.{Pair, criteria, largest, wanted, before, place, none_fits}

-- ---- the oldest of criterion k

pub before_le : (k : ℕ) (cs : List ℕ) → before k cs ≤ length cs
unfolding before
before_le k [] = omega arith
before_le k (c ∷ cs) = go (eqb c k) refl (before_le k cs)
  where
    go : (b : Bool) → eqb c k ≡ b → before k cs ≤ length cs → before k (c ∷ cs) ≤ suc (length cs)
    go true e ih = rw e (omega arith)
    go false e ih = rw e (omega arith)

-- it has the criterion, and none before it has
pub before_here : (k : ℕ) (cs : List ℕ) → before k cs < length cs → get_or cs (before k cs) 0 ≡ k
unfolding before
before_here k [] h = absurd (omega arith)
before_here k (c ∷ cs) h = go (eqb c k) refl (before_here k cs)
  where
    go : (b : Bool) → eqb c k ≡ b → (before k cs < length cs → get_or cs (before k cs) 0 ≡ k) → get_or (c ∷ cs) (before k (c ∷ cs)) 0 ≡ k
    go true e ih = rw e (eqb-true c k e)
    go false e ih = rw e (ih (le_of_suc-le-suc (rw e at h)))

pub before_first_lem : (k : ℕ) (cs : List ℕ) (i : ℕ) → i < before k cs → get_or cs i 0 ≢ k
unfolding before
before_first_lem k [] i h = absurd (omega arith)
before_first_lem k (c ∷ cs) i h = go (eqb c k) refl i h (before_first_lem k cs)
  where
    go : (b : Bool) → eqb c k ≡ b → (i : ℕ) → i < before k (c ∷ cs) → ((j : ℕ) → j < before k cs → get_or cs j 0 ≢ k) → get_or (c ∷ cs) i 0 ≢ k
    go true e i l ih = let l' : i < 0 = rw e at l in absurd (omega arith)
    go false e zero l ih = eqb-false c k e
    go false e (suc i) l ih = ih i (le_of_suc-le-suc (rw e at l))

-- ---- the largest criterion present

pub largest_ge : (cs : List ℕ) (i : ℕ) → get_or cs i 0 ≤ largest cs
unfolding largest
largest_ge [] i = omega arith
largest_ge (c ∷ cs) zero = omega arith
largest_ge (c ∷ cs) (suc i) = let ih = largest_ge cs i in omega arith

pub largest_had : (c : ℕ) (cs : List ℕ) → (i : ℕ) × (i < length (c ∷ cs)) × (get_or (c ∷ cs) i 0 ≡ largest (c ∷ cs))
unfolding largest
largest_had c [] = (0, omega arith, omega arith)
largest_had c (d ∷ cs) = go (ltb c (largest (d ∷ cs))) refl (largest_had d cs)
  where
    go : (b : Bool) → ltb c (largest (d ∷ cs)) ≡ b → (i : ℕ) × (i < length (d ∷ cs)) × (get_or (d ∷ cs) i 0 ≡ largest (d ∷ cs))
        → (i : ℕ) × (i < length (c ∷ d ∷ cs)) × (get_or (c ∷ d ∷ cs) i 0 ≡ largest (c ∷ d ∷ cs))
    go true e q = let l = ltb-true c (largest (d ∷ cs)) e in (suc q.0, omega (arith, q.1), q.2 ∙ omega arith)
    go false e q = let l = ltb-false c (largest (d ∷ cs)) e in (0, omega arith, omega arith)

-- ---- "no element fits"

-- exactly if no element has the wanted criterion
pub none_fits_lem : (k : ℕ) (queue : List Pair)
    → (none_fits k queue ≡ true) ↔ ((i : ℕ) → i < length queue → get_or (criteria queue) i 0 ≢ wanted k (criteria queue))
unfolding place
none_fits_lem k queue = (none, fits)
  where
    w : ℕ
    w = wanted k (criteria queue)

    long : length (criteria queue) ≡ length queue
    long = length-map queue (λ p. p.criterion)

    none : none_fits k queue ≡ true → (i : ℕ) → i < length queue → get_or (criteria queue) i 0 ≢ w
    none h i l = before_first_lem w (criteria queue) i (omega (arith, leb-true (length queue) (before w (criteria queue)) h))

    fits : ((i : ℕ) → i < length queue → get_or (criteria queue) i 0 ≢ w) → none_fits k queue ≡ true
    fits h = go (ltb (before w (criteria queue)) (length queue)) refl
      where
        go : (b : Bool) → ltb (before w (criteria queue)) (length queue) ≡ b → none_fits k queue ≡ true
        go true e =
            let l = ltb-true (before w (criteria queue)) (length queue) e in
            absurd (h (before w (criteria queue)) l (before_here w (criteria queue) (omega (arith, long))))
        go false e = le-leb (length queue) (before w (criteria queue)) (ltb-false (before w (criteria queue)) (length queue) e)
