-- The heir is chosen by the urgencies of those in line alone.
use Rattle.std.proofs.Common.{ℕ, ◌<◌, ◌≡◌, refl, sym, ◌∙◌, true, cond, List, get_or}
use Rattle.rules.specs.Numbers.{task_room}
use Rattle.rules.specs.Election.{ready_at, best_ready}
use Rattle.rules.specs.Urgency.{awaiting, task_urgency, urgencies, line, heir}
use Rattle.rules.proofs.Columns.{column_at}
use Rattle.rules.proofs.Urgency.{urgencies_at}
use Rattle.rules.proofs.Heirs.{best_same, line_ready}
use Rattle.urgency.specs.Lines.{line_urgencies}

module _ (priority awaits opened holder : List ℕ) (r : ℕ) where
  in_line : (i : ℕ) → i < task_room → ready_at (line awaits r) i ≡ true
      → get_or (line_urgencies priority awaits opened holder r) i 0 ≡ get_or (urgencies priority awaits opened holder) i 0
  unfolding line_urgencies
  in_line i l h =
      let waits : awaiting awaits r i ≡ true = sym (line_ready awaits r i l) ∙ h in
      column_at task_room (λ j. cond (awaiting awaits r j) (task_urgency priority awaits opened holder task_room j) 0) i l
      ∙ rw waits (sym (urgencies_at priority awaits opened holder i l))

  pub heir_by_line : best_ready (line awaits r) (line_urgencies priority awaits opened holder r) ≡ heir priority awaits opened holder r
  unfolding heir
  heir_by_line =
      best_same (line awaits r) (line_urgencies priority awaits opened holder r) (line awaits r) (urgencies priority awaits opened holder)
      (λ i l. refl) in_line

  -- as the code has it
  pub heir_chosen : {waiting urgency : List ℕ} {best : ℕ} → best ≡ best_ready waiting urgency → waiting ≡ line awaits r
      → urgency ≡ line_urgencies priority awaits opened holder r → best ≡ heir priority awaits opened holder r
  heir_chosen e f h = e ∙ rw (f, h) heir_by_line
