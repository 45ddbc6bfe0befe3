-- The two functions as the code has them: what is left falls where a region asks its tasks.
use Rattle.std.proofs.Common.{ℕ, zero, suc, ◌-◌, min, ◌≡◌, refl, List, arith, get_or}
use Rattle.rules.specs.Numbers.{task_room, region_room, priority_end}
use Rattle.rules.specs.Election.{smallest}
use Rattle.rules.specs.Urgency.{awaiting, holding, urgency_by, region_urgency, task_urgency}

module _ (priority awaits opened holder : List ℕ) where
  pub region_none : (left r : ℕ) → left ≡ 0 → priority_end ≡ region_urgency priority awaits opened holder left r
  unfolding region_urgency
  region_none left r e = rw e

  pub region_asks : (left r : ℕ) {u : ℕ} → (left ≡ 0 → ⊥)
      → u ≡ smallest task_room (awaiting awaits r) (task_urgency priority awaits opened holder (left - 1))
      → u ≡ region_urgency priority awaits opened holder left r
  unfolding region_urgency task_urgency
  region_asks zero r z e = absurd (z refl)
  region_asks (suc left) r z e = let less : suc left - 1 ≡ left = omega arith in rw less at e

  pub task_asks : (left i : ℕ) {least u : ℕ}
      → least ≡ smallest region_room (holding opened holder i) (region_urgency priority awaits opened holder left)
      → u ≡ min (get_or priority i 0) least → u ≡ task_urgency priority awaits opened holder left i
  unfolding task_urgency urgency_by
  task_asks left i e h = rw e at h
