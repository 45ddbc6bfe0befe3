-- Where a task stands in the election: its rank, by which the smallest priority and who has it are found.
use Rattle.std.proofs.Common.{ℕ, zero, suc, ◌+◌, ◌≤◌, min, ◌≡◌, refl, Bool, true, false, cond, ◌&&◌, arith, eqb, get_or, List, ne_eqb}
use Rattle.rules.specs.Numbers.{priority_end}
use Rattle.rules.specs.Election.{smallest, ready_at, priority_at}
use Rattle.election.specs.Ranks.{not_ready, rank_of}

-- priority number q where b, else behind every one
module _ (b : Bool) (q p : ℕ) (l : p ≤ priority_end) where
  pub lesser : min (cond b 0 not_ready + q) p ≡ cond b (min q p) p
  lesser = go b
    where
      go : (c : Bool) → min (cond c 0 not_ready + q) p ≡ cond c (min q p) p
      go true = omega arith
      go false = omega arith

  -- it is p exactly where the task counts and has priority p
  pub has_is : (x : ℕ) → x ≡ cond b 0 not_ready + q → eqb x p ≡ (b && eqb q p)
  has_is x e = go b e
    where
      go : (c : Bool) → x ≡ cond c 0 not_ready + q → eqb x p ≡ (c && eqb q p)
      go true f = let same : x ≡ q = omega arith in rw same
      go false f = ne_eqb x p (omega arith)

-- the smallest priority so far is at most this
pub smallest_within : (n : ℕ) (passes : ℕ → Bool) (priority : ℕ → ℕ) {p : ℕ} → p ≡ smallest n passes priority → p ≤ priority_end
unfolding smallest
smallest_within zero passes priority e = omega arith
smallest_within (suc n) passes priority e = go (passes n) e (smallest_within n passes priority refl)
  where
    go : {p : ℕ} (b : Bool) → p ≡ cond b (min (priority n) (smallest n passes priority)) (smallest n passes priority)
        → smallest n passes priority ≤ priority_end → p ≤ priority_end
    go true e l = omega arith
    go false e l = omega arith

-- one task more, by its rank
pub smallest_ranked : (states priorities : List ℕ) (n : ℕ)
    → min (rank_of (get_or states n 0) (get_or priorities n 0)) (smallest n (ready_at states) (priority_at priorities)) ≡ smallest (suc n) (ready_at states) (priority_at priorities)
unfolding smallest
smallest_ranked states priorities n = lesser (ready_at states n) _ _ (smallest_within n _ _ refl)
