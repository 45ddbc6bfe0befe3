-- What is carried: after the ways of all tasks each entry is the task's urgency.
use Rattle.std.proofs.Common.{ℕ, zero, suc, ◌<◌, ◌≤◌, min, ◌≡◌, refl, sym, ap, ◌∙◌, ◌≢◌, Bool, true, false, cond, List, arith, eqb, ltb, get_or, length, length-set, get_or-set_same, get_or-set_other, eqb-true, eq-eqb, ltb-true, ltb-false}
use lib.ListN.{get_or-eq_default}
use borrow.Author.Tests.{eqb-false}
use Rattle.rules.specs.Numbers.{task_room, region_room, priority_end}
use Rattle.rules.specs.Urgency.{is_open, task_urgency, urgencies}
use Rattle.rules.proofs.Bools.{and_left, and_right, both}
use Rattle.rules.proofs.Columns.{column_is}
use Rattle.rules.proofs.Chains.{Waits, Chain}
use Rattle.rules.proofs.Urgency.{small_everywhere, urgency_own, urgency_reach, urgency_had}
use Rattle.urgency.specs.Carrying.{held_open, lowered, carry, carried_by}

-- ---- a task that is lowered

lowered_le : (i p k : ℕ) (out : List ℕ) → get_or (lowered i p out) k 0 ≤ get_or out k 0
lowered_le i p k out = go (eqb k i) refl (ltb i (length out)) refl
  where
    go : (b : Bool) → eqb k i ≡ b → (c : Bool) → ltb i (length out) ≡ c → get_or (lowered i p out) k 0 ≤ get_or out k 0
    go true e true f =
        let same = eqb-true k i e in
        let is = get_or-set_same out i (min (get_or out i 0) p) 0 (ltb-true i (length out) f) in
        rw (same, is) (omega arith)
    go true e false f =
        let past = ltb-false i (length out) f in
        let same = eqb-true k i e in
        let long = length-set out i (min (get_or out i 0) p) in
        rw (same, get_or-eq_default (lowered i p out) 0 {n = i} (omega arith)) (omega arith)
    go false e c f = rw (get_or-set_other out i k (min (get_or out i 0) p) 0 (eqb-false k i e)) (omega arith)

-- ---- a link, by what is stored

module _ (awaits opened holder : List ℕ) where
  abbrev linked : ℕ → ℕ
  linked i = held_open opened holder (get_or awaits i 0)

  waits_linked : (j k : ℕ) → Waits awaits opened holder j k → linked j ≡ suc k
  unfolding held_open
  waits_linked j k w =
      let r = w.region in
      let open' : is_open (get_or opened r 0) ≡ true = and_left _ _ w.held in
      rw (eqb-true (get_or awaits j 0) (suc r) w.awaited, open') (eqb-true _ _ (and_right (is_open (get_or opened r 0)) _ w.held))

  module _ (tasks : length awaits ≡ task_room) (regions : length opened ≡ region_room) where
    linked_waits : (j k : ℕ) → linked j ≡ suc k → Waits awaits opened holder j k
    unfolding held_open
    linked_waits j k e = go (get_or awaits j 0) refl e
      where
        known : (r : ℕ) → get_or awaits j 0 ≡ suc r → (b : Bool) → ltb j task_room ≡ b → j < task_room
        known r f true g = ltb-true j task_room g
        known r f false g =
            let past = ltb-false j task_room g in
            let none = get_or-eq_default awaits 0 {n = j} (omega arith) in
            absurd (omega arith)

        there : (r : ℕ) → is_open (get_or opened r 0) ≡ true → (b : Bool) → ltb r region_room ≡ b → r < region_room
        there r o true g = ltb-true r region_room g
        there r o false g =
            let past = ltb-false r region_room g in
            let one = eqb-true (get_or opened r 0) 1 o in
            let none = get_or-eq_default opened 0 {n = r} (omega arith) in
            absurd (omega arith)

        go : (a : ℕ) → get_or awaits j 0 ≡ a → held_open opened holder a ≡ suc k → Waits awaits opened holder j k
        go zero f h = absurd (omega arith)
        go (suc r) f h = which (is_open (get_or opened r 0)) refl h
          where
            which : (b : Bool) → is_open (get_or opened r 0) ≡ b → cond b (get_or holder r 0) 0 ≡ suc k → Waits awaits opened holder j k
            which true o g = record {
              region = r;
              task_known = known r f (ltb j task_room) refl;
              region_known = there r o (ltb r region_room) refl;
              awaited = eq-eqb (get_or awaits j 0) (suc r) f;
              held = both o (eq-eqb (get_or holder r 0) (suc k) g);
            }
            which false o g = absurd (omega arith)

  -- ---- one way

  length_carry : (left entry p : ℕ) (out : List ℕ) → length (carry awaits opened holder left entry p out) ≡ length out
  unfolding carry
  length_carry zero entry p out = refl
  length_carry (suc left) zero p out = refl
  length_carry (suc left) (suc i) p out =
      length_carry left (linked i) p (lowered i p out) ∙ length-set out i (min (get_or out i 0) p)

  pub carry_long : (left entry p : ℕ) (out : List ℕ) {out' : List ℕ} {n : ℕ} → out' ≡ carry awaits opened holder left entry p out
      → length out ≡ n → length out' ≡ n
  carry_long left entry p out e h = ap length e ∙ length_carry left entry p out ∙ h

  -- at most what it was, and at most p for each task on the way
  carry_le : (left entry p k : ℕ) (out : List ℕ) → get_or (carry awaits opened holder left entry p out) k 0 ≤ get_or out k 0
  unfolding carry
  carry_le zero entry p k out = omega arith
  carry_le (suc left) zero p k out = omega arith
  carry_le (suc left) (suc i) p k out =
      let here = lowered_le i p k out in
      let rest = carry_le left (linked i) p k (lowered i p out) in
      omega arith

  carry_reach : (n left k i p : ℕ) (out : List ℕ) → n < left → Chain awaits opened holder n k i → i < length out
      → get_or (carry awaits opened holder left (suc k) p out) i 0 ≤ p
  unfolding carry
  carry_reach n zero k i p out l c m = absurd (omega arith)
  carry_reach zero (suc left) k i p out l c m =
      let rest = carry_le left (linked k) p i (lowered k p out) in
      let here = get_or-set_same out i (min (get_or out i 0) p) 0 m in
      let there : get_or (lowered k p out) i 0 ≡ min (get_or out i 0) p = rw c here in
      omega arith
  carry_reach (suc n) (suc left) k i p out l c m =
      rw (waits_linked k c.0 c.1)
      (carry_reach n left c.0 i p (lowered k p out) (omega arith) c.2 (rw (length-set out k (min (get_or out k 0) p)) m))

  -- at least u, where it was and where p is if the task is on the way
  module _ (tasks : length awaits ≡ task_room) (regions : length opened ≡ region_room) where
    carry_above : (left entry p u i : ℕ) (out : List ℕ) → u ≤ get_or out i 0
        → ((n k : ℕ) → n < left → entry ≡ suc k → Chain awaits opened holder n k i → u ≤ p)
        → u ≤ get_or (carry awaits opened holder left entry p out) i 0
    unfolding carry
    carry_above zero entry p u i out l h = l
    carry_above (suc left) zero p u i out l h = l
    carry_above (suc left) (suc k) p u i out l h =
        carry_above left (linked k) p u i (lowered k p out) (here (eqb i k) refl (ltb k (length out)) refl)
        (λ n k' m e c. h (suc n) k (omega arith) refl (k', linked_waits tasks regions k k' e, c))
      where
        here : (b : Bool) → eqb i k ≡ b → (c : Bool) → ltb k (length out) ≡ c → u ≤ get_or (lowered k p out) i 0
        here true e true f =
            let same = eqb-true i k e in
            let low = h 0 k (omega arith) refl (sym same) in
            let before : u ≤ get_or out k 0 = rw same at l in
            let is = get_or-set_same out k (min (get_or out k 0) p) 0 (ltb-true k (length out) f) in
            rw (same, is) (omega arith)
        here true e false f =
            let past = ltb-false k (length out) f in
            let same = eqb-true i k e in
            let none = get_or-eq_default out 0 {n = i} (omega arith) in
            omega arith
        here false e c f = rw (get_or-set_other out k i (min (get_or out k 0) p) 0 (eqb-false i k e)) l

-- ---- the ways of all tasks

module _ (priority awaits opened holder : List ℕ) (long : length priority ≡ task_room) where
  length_carried : (n : ℕ) → length (carried_by priority awaits opened holder n) ≡ task_room
  unfolding carried_by
  length_carried zero = long
  length_carried (suc n) = length_carry awaits opened holder task_room _ _ (carried_by priority awaits opened holder n) ∙ length_carried n

  carried_own : (n i : ℕ) → get_or (carried_by priority awaits opened holder n) i 0 ≤ get_or priority i 0
  unfolding carried_by
  carried_own zero i = omega arith
  carried_own (suc n) i =
      let less = carry_le awaits opened holder task_room (linked awaits opened holder n) (get_or priority n 0) i (carried_by priority awaits opened holder n) in
      let rest = carried_own n i in
      omega arith

  -- each way is carried to its end
  carried_reach : (n m j k i : ℕ) → j < n → i < task_room → m < task_room → Waits awaits opened holder j k → Chain awaits opened holder m k i
      → get_or (carried_by priority awaits opened holder n) i 0 ≤ get_or priority j 0
  unfolding carried_by
  carried_reach zero m j k i l t f w c = absurd (omega arith)
  carried_reach (suc n) m j k i l t f w c = go (eqb j n) refl (carried_reach n m j k i)
    where
      before : List ℕ
      before = carried_by priority awaits opened holder n

      go : (b : Bool) → eqb j n ≡ b
          → (j < n → i < task_room → m < task_room → Waits awaits opened holder j k → Chain awaits opened holder m k i → get_or before i 0 ≤ get_or priority j 0)
          → get_or (carry awaits opened holder task_room (linked awaits opened holder n) (get_or priority n 0) before) i 0 ≤ get_or priority j 0
      go true e ih =
          let same = eqb-true j n e in
          let links : linked awaits opened holder n ≡ suc k = rw same at (waits_linked awaits opened holder j k w) in
          rw (same, links) (carry_reach awaits opened holder m task_room k i (get_or priority n 0) before f c (rw (length_carried n) t))
      go false e ih =
          let other : j ≢ n = eqb-false j n e in
          let rest = ih (omega arith) t f w c in
          let less = carry_le awaits opened holder task_room (linked awaits opened holder n) (get_or priority n 0) i before in
          omega arith

  module _ (tasks : length awaits ≡ task_room) (regions : length opened ≡ region_room) where
    carried_above : (n i : ℕ) → task_urgency priority awaits opened holder task_room i ≤ get_or (carried_by priority awaits opened holder n) i 0
    unfolding carried_by
    carried_above zero i = urgency_own priority awaits opened holder task_room i
    carried_above (suc n) i =
        carry_above awaits opened holder tasks regions task_room (linked awaits opened holder n) (get_or priority n 0)
        (task_urgency priority awaits opened holder task_room i) i (carried_by priority awaits opened holder n) (carried_above n i)
        (λ m k l e c.
        urgency_reach priority awaits opened holder (suc m) task_room n i (omega arith) (k, linked_waits awaits opened holder tasks regions n k e, c))

    module _ (small : (i : ℕ) → i < task_room → get_or priority i 0 < priority_end) where
      carried_below : (i : ℕ) → i < task_room
          → get_or (carried_by priority awaits opened holder task_room) i 0 ≤ task_urgency priority awaits opened holder task_room i
      carried_below i l =
          let had = urgency_had priority awaits opened holder (small_everywhere priority long small) task_room i in
          go had.links had.task had.within had.chain had.same
        where
          go : (n j : ℕ) → n ≤ task_room → Chain awaits opened holder n j i → get_or priority j 0 ≡ task_urgency priority awaits opened holder task_room i
              → get_or (carried_by priority awaits opened holder task_room) i 0 ≤ task_urgency priority awaits opened holder task_room i
          go zero j m c e =
              let own = carried_own task_room i in
              let same : get_or priority i 0 ≡ get_or priority j 0 = ap (λ k. get_or priority k 0) (sym c) in
              omega arith
          go (suc n) j m c e =
              let reach = carried_reach task_room n j c.0 i c.1.task_known l (omega arith) c.1 c.2 in
              omega arith

      pub carried_is : carried_by priority awaits opened holder task_room ≡ urgencies priority awaits opened holder
      unfolding urgencies
      carried_is =
          sym
          (column_is task_room _ (carried_by priority awaits opened holder task_room) (length_carried task_room)
          (λ i l. let above = carried_above task_room i in let below = carried_below i l in omega arith))
