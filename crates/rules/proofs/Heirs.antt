-- Who gets a region: of those that wait for it the most urgent, of equals the lowest number; and what the choice reads.
use Prim.Native.Nat.{ℕ, zero, suc, ◌<◌, ◌≤◌}
use mathlib.Core.Path.{◌≡◌, refl, sym, ◌∙◌}
use mathlib.Core.Logic.{◌≢◌, ◌↔◌, ◌⊎◌, ⊎_elim}
use mathlib.Core.Bool.{Bool, true, false, cond}
use mathlib.Core.List.{List}
use native.Mathlib.Omega.{arith}
use lib.Dec.{eqb}
use lib.ListN.{get_or, length}
use Rattle.rules.specs.Numbers.{task_room, priority_end, nobody}
use Rattle.rules.specs.Tasks.{ready, stopped}
use Rattle.rules.specs.Election.{smallest, lowest, ready_at, priority_at, is_best, best_ready}
use Rattle.rules.specs.Urgency.{awaiting, urgencies, line, heir}
use Rattle.rules.proofs.Bools.{and_left}
use Rattle.rules.proofs.Election.{lowest_is, best_wins, best_nobody}
use Rattle.rules.proofs.Smallest.{smallest_same}
use Rattle.rules.proofs.Columns.{length_column, column_at, column_past}
use Rattle.rules.proofs.Urgency.{urgencies_own}

-- ---- the best of the ready tasks depends on who is ready and on their priorities alone

pub lowest_same : (passes passes' : ℕ → Bool) (n : ℕ) → ((i : ℕ) → i < n → passes i ≡ passes' i) → lowest n passes ≡ lowest n passes'
unfolding lowest
lowest_same passes passes' zero h = refl
lowest_same passes passes' (suc n) h = rw (lowest_same passes passes' n (λ i l. h i (omega arith)), h n (omega arith))

module _ (states priorities states' priorities' : List ℕ) (sames : (i : ℕ) → i < task_room → ready_at states i ≡ ready_at states' i)
    (agree : (i : ℕ) → i < task_room → ready_at states i ≡ true → priority_at priorities i ≡ priority_at priorities' i) where
  best_tests : (i : ℕ) → i < task_room → is_best states priorities i ≡ is_best states' priorities' i
  unfolding is_best
  best_tests i l =
      let least =
      smallest_same (ready_at states) (ready_at states') (priority_at priorities) (priority_at priorities') task_room sames agree in
      go (ready_at states i) refl least
    where
      go : (b : Bool) → ready_at states i ≡ b
          → smallest task_room (ready_at states) (priority_at priorities) ≡ smallest task_room (ready_at states') (priority_at priorities')
          → is_best states priorities i ≡ is_best states' priorities' i
      go true e least = rw (← sames i l, e, agree i l e, least)
      go false e least = rw (← sames i l, e)

  pub best_same : best_ready states priorities ≡ best_ready states' priorities'
  unfolding best_ready
  best_same = lowest_same (is_best states priorities) (is_best states' priorities') task_room best_tests

-- ---- the line of a region: who waits for it, as the election sees who is ready

module _ (awaits : List ℕ) (r : ℕ) where
  pub length_line : length (line awaits r) ≡ task_room
  unfolding line
  length_line = length_column task_room _

  pub line_ready : (i : ℕ) → i < task_room → ready_at (line awaits r) i ≡ awaiting awaits r i
  unfolding line
  line_ready i l = rw (column_at task_room (λ j. cond (awaiting awaits r j) ready stopped) i l) (go (awaiting awaits r i))
    where
      go : (b : Bool) → eqb (cond b ready stopped) ready ≡ b
      go true = refl
      go false = refl

  pub line_past : (i : ℕ) → task_room ≤ i → ready_at (line awaits r) i ≡ false
  unfolding line
  line_past i l = rw (column_past task_room (λ j. cond (awaiting awaits r j) ready stopped) i l)

-- ---- the heir

-- the most urgent of those that wait for region r, of equals the lowest number
pub record Inherits (priority awaits opened holder : List ℕ) (r x : ℕ) : Type 0 where
  pub known : x < task_room
  pub waited : awaiting awaits r x ≡ true
  pub first : (i : ℕ) → i < task_room → awaiting awaits r i ≡ true
      → (get_or (urgencies priority awaits opened holder) x 0 < get_or (urgencies priority awaits opened holder) i 0)
      ⊎ ((get_or (urgencies priority awaits opened holder) x 0 ≡ get_or (urgencies priority awaits opened holder) i 0) × (x ≤ i))

module _ (priority awaits opened holder : List ℕ) (small : (i : ℕ) → i < task_room → get_or priority i 0 < priority_end) (r : ℕ) where
  small_urgencies : (i : ℕ) → i < task_room → get_or (urgencies priority awaits opened holder) i 0 < priority_end
  small_urgencies i l = let less = urgencies_own priority awaits opened holder i l in let s = small i l in omega arith

  pub heir_nobody : (heir priority awaits opened holder r ≡ nobody) ↔ ((i : ℕ) → i < task_room → awaiting awaits r i ≡ false)
  unfolding heir
  heir_nobody =
      let best = best_nobody (line awaits r) (urgencies priority awaits opened holder) small_urgencies in (
        λ e i l. sym (line_ready awaits r i l) ∙ best.0 e i l,
        λ h. best.1 (λ i l. line_ready awaits r i l ∙ h i l),
      )

  -- where a task waits, the heir is one of those that do
  pub heir_waited : (i : ℕ) → i < task_room → awaiting awaits r i ≡ true
      → Inherits priority awaits opened holder r (heir priority awaits opened holder r)
  unfolding heir
  heir_waited i l h =
      let wins = best_wins (line awaits r) (urgencies priority awaits opened holder) small_urgencies i (l, line_ready awaits r i l ∙ h) in
      record {
        known = wins.ready.0;
        waited = sym (line_ready awaits r _ wins.ready.0) ∙ wins.ready.1;
        first = λ k m g. wins.first k (m, line_ready awaits r k m ∙ g);
      }

  pub heir_inherits : heir priority awaits opened holder r ≢ nobody
      → Inherits priority awaits opened holder r (heir priority awaits opened holder r)
  unfolding heir best_ready is_best
  heir_inherits some =
      ⊎_elim (λ q. absurd (some q.0))
      (λ q. heir_waited _ q.below (sym (line_ready awaits r _ q.below) ∙ and_left _ _ q.passing))
      (lowest_is (is_best (line awaits r) (urgencies priority awaits opened holder)) task_room (omega arith))
