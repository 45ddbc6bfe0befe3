-- A test of every number below a bound, as a chain over them goes through it.
use Rattle.std.proofs.Common.{ℕ, zero, suc, ◌+◌, ◌≡◌, refl, ◌∙◌, Bool, true, false, ◌&&◌, arith}
use Rattle.std.specs.List.{list_all, range_with_len}
use Rattle.rules.specs.Words.{below}

-- one number more at the end
all_again : (p : ℕ → Bool) (a n : ℕ) → list_all p (range_with_len a (suc n)) ≡ (list_all p (range_with_len a n) && p (a + n))
all_again p a zero = go (p a) (let e : a + 0 ≡ a = omega arith in rw e)
  where
    go : (b : Bool) → p (a + 0) ≡ b → (b && true) ≡ p (a + 0)
    go true e = rw e
    go false e = rw e
all_again p a (suc n) = let e : a + 1 + n ≡ a + suc n = omega arith in go (p a) (rw e at (all_again p (a + 1) n))
  where
    rest : ℕ → Bool
    rest m = list_all p (range_with_len (a + 1) m)

    go : (b : Bool) → rest (suc n) ≡ (rest n && p (a + suc n)) → (b && rest (suc n)) ≡ ((b && rest n) && p (a + suc n))
    go true e = e
    go false e = refl

pub all_below : (p : ℕ → Bool) (n : ℕ) → list_all p (range_with_len 0 n) ≡ below n p
unfolding below
all_below p zero = refl
all_below p (suc n) = let e : 0 + n ≡ n = omega arith in all_again p 0 n ∙ rw (all_below p n, e)
