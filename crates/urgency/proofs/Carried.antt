-- A way as the code goes it: where it stops, and one task more.
use Rattle.std.proofs.Common.{ℕ, zero, suc, ◌+◌, ◌≤◌, ◌≡◌, List, min, length, get_or, refl, sym, ◌∙◌, add-one, arith, Option, None, Some, set}
use lib.ListN.{get_or-eq_default}
use lib.Seq.{set_out}
use Rattle.rules.specs.Numbers.{task_room}
use Rattle.rules.proofs.Counts.{at_end}
use Rattle.urgency.specs.Carrying.{held_open, carry, carried_by}
use Rattle.urgency.specs.Named.{stored}

-- ---- the turns of a way

ends_at_none : (awaits opened holder : List ℕ) (left p : ℕ) (out : List ℕ) → carry awaits opened holder left 0 p out ≡ out
unfolding carry
ends_at_none awaits opened holder zero p out = refl
ends_at_none awaits opened holder (suc left) p out = refl

module _ (awaits opened holder : List ℕ) (left p : ℕ) (next : Option ℕ) (out : List ℕ) {done : List ℕ}
    (is : carry awaits opened holder left (stored next) p out ≡ done) where
  -- no step is left, or nobody comes next
  pub carry_end : left ≡ 0 → out ≡ done
  unfolding carry
  carry_end e = rw e at is

  pub carry_stop : next ≡ None → out ≡ done
  carry_stop e = sym (ends_at_none awaits opened holder left p out) ∙ (rw e at is)

  module _ {task : ℕ} (some : next ≡ Some task) where
    -- it is no task
    pub carry_past : length awaits ≡ task_room → length out ≡ task_room → task_room ≤ task → out ≡ done
    unfolding carry held_open
    carry_past tasks long l = go left (rw some at is)
      where
        go : (n : ℕ) → carry awaits opened holder n (suc task) p out ≡ done → out ≡ done
        go zero h = h
        go (suc n) h =
            let nothing = get_or-eq_default awaits 0 {n = task} (omega arith) in
            let same = set_out out task (min (get_or out task 0) p) (omega arith) in
            sym (ends_at_none awaits opened holder n p out) ∙ (rw (nothing, same) at h)

    -- one task more
    pub carry_again : {less v after : ℕ} → suc less ≡ left → v ≡ min (get_or out task 0) p → after ≡ held_open opened holder (get_or awaits task 0)
        → carry awaits opened holder less after p (set out task v) ≡ done
    unfolding carry
    carry_again f e h = rw (e, h) (rw (some, ← f) at is)

-- ---- the ways of the tasks passed

module _ (priority awaits opened holder : List ℕ) where
  pub carried_none : priority ≡ carried_by priority awaits opened holder 0
  unfolding carried_by
  carried_none = refl

  pub carried_again : (j : ℕ) {out out' : List ℕ} → out ≡ carried_by priority awaits opened holder j
      → out' ≡ carry awaits opened holder task_room (held_open opened holder (get_or awaits j 0)) (get_or priority j 0) out
      → out' ≡ carried_by priority awaits opened holder (j + 1)
  unfolding carried_by
  carried_again j e h = rw (add-one, ← e) h

  pub carried_end : (j : ℕ) {out : List ℕ} → out ≡ carried_by priority awaits opened holder j → j ≤ task_room → task_room ≤ j
      → out ≡ carried_by priority awaits opened holder task_room
  carried_end j e l k = at_end (carried_by priority awaits opened holder) j task_room e l k
