-- Laws of the smallest value beside those that the election needs: one number more, what it depends on, where it is 256; and as a loop counts.
use Prim.Native.Nat.{ℕ, zero, suc, ◌+◌, ◌<◌, min}
use mathlib.Core.Path.{◌≡◌, refl, sym, ◌∙◌}
use mathlib.Core.Bool.{Bool, true, false}
use native.Mathlib.Omega.{arith}
use native.Mathlib.Numerals.{add-one}
use Rattle.rules.specs.Numbers.{priority_end}
use Rattle.rules.specs.Election.{smallest}

module _ (passes : ℕ → Bool) (value : ℕ → ℕ) (n : ℕ) where
  -- one number more: it passes, or it doesn't
  pub smallest_pass : passes n ≡ true → smallest (suc n) passes value ≡ min (value n) (smallest n passes value)
  unfolding smallest
  smallest_pass e = rw e

  pub smallest_skip : passes n ≡ false → smallest (suc n) passes value ≡ smallest n passes value
  unfolding smallest
  smallest_skip e = rw e

-- tests that are the same, and values that agree wherever a number passes
pub smallest_same : (passes passes' : ℕ → Bool) (value value' : ℕ → ℕ) (n : ℕ) → ((i : ℕ) → i < n → passes i ≡ passes' i)
    → ((i : ℕ) → i < n → passes i ≡ true → value i ≡ value' i) → smallest n passes value ≡ smallest n passes' value'
unfolding smallest
smallest_same passes passes' value value' zero t h = refl
smallest_same passes passes' value value' (suc n) t h =
    go (passes n) refl (smallest_same passes passes' value value' n (λ i l. t i (omega arith)) (λ i l. h i (omega arith)))
  where
    go : (b : Bool) → passes n ≡ b → smallest n passes value ≡ smallest n passes' value'
        → smallest (suc n) passes value ≡ smallest (suc n) passes' value'
    go true e ih =
        let here = h n (omega arith) e in
        omega (arith, smallest_pass passes value n e, smallest_pass passes' value' n (sym (t n (omega arith)) ∙ e))
    go false e ih = omega (arith, smallest_skip passes value n e, smallest_skip passes' value' n (sym (t n (omega arith)) ∙ e))

-- 256 where every number that passes has it, or none passes
pub smallest_none : (passes : ℕ → Bool) (value : ℕ → ℕ) (n : ℕ) → ((i : ℕ) → i < n → passes i ≡ true → value i ≡ priority_end)
    → smallest n passes value ≡ priority_end
unfolding smallest
smallest_none passes value zero h = refl
smallest_none passes value (suc n) h = go (passes n) refl (smallest_none passes value n (λ i l. h i (omega arith)))
  where
    go : (b : Bool) → passes n ≡ b → smallest n passes value ≡ priority_end → smallest (suc n) passes value ≡ priority_end
    go true e ih = let here = h n (omega arith) e in omega (arith, smallest_pass passes value n e)
    go false e ih = smallest_skip passes value n e ∙ ih

-- ---- as a loop counts

module _ (passes : ℕ → Bool) (value : ℕ → ℕ) (i : ℕ) {least : ℕ} (is : least ≡ smallest i passes value) where
  pub smallest_taken : {u : ℕ} → true ≡ passes i → u ≡ value i → min u least ≡ smallest (i + 1) passes value
  smallest_taken h f = rw (add-one, smallest_pass passes value i (sym h), is, f)

  pub smallest_left : false ≡ passes i → least ≡ smallest (i + 1) passes value
  smallest_left h = rw (add-one, smallest_skip passes value i (sym h)) is
