-- Urgency changes only along the chain of holders: a task keeps its urgency where nobody on a chain to it is waited for otherwise than before.
use Prim.Native.Nat.{ℕ, zero, suc, ◌-◌, ◌<◌, ◌≤◌}
use mathlib.Core.Path.{◌≡◌, refl, sym, ap, ◌∙◌}
use mathlib.Core.Logic.{◌≢◌, ◌↔◌, ◌⊎◌, inl, inr, ⊎_elim}
use mathlib.Core.Bool.{Bool, true, false, true≢false}
use mathlib.Core.List.{List}
use native.Mathlib.Omega.{arith}
use lib.Dec.{eqb}
use lib.ListN.{get_or, set, length}
use lib.Seq.{get_or-set_same, get_or-set_other}
use borrow.Author.Tests.{eqb-true, eqb-false, eq-eqb, ne_eqb}
use Rattle.rules.specs.Numbers.{task_room, priority_end}
use Rattle.rules.specs.Urgency.{task_urgency}
use Rattle.rules.specs.Circles.{meets}
use Rattle.rules.proofs.Bools.{or_second}
use Rattle.rules.proofs.Ways.{onward_region}
use Rattle.rules.proofs.Chains.{Waits, Chain, waits_onward}
use Rattle.rules.proofs.Urgency.{urgency_reach, urgency_had}

-- ---- two situations

-- more chains to a task make it no less urgent
pub urgency_more : (priority awaits opened holder awaits' opened' holder' : List ℕ) → ((k : ℕ) → get_or priority k 0 ≤ priority_end) → (left i : ℕ)
    → ((n j : ℕ) → n ≤ left → Chain awaits opened holder n j i → Chain awaits' opened' holder' n j i)
    → task_urgency priority awaits' opened' holder' left i ≤ task_urgency priority awaits opened holder left i
urgency_more priority awaits opened holder awaits' opened' holder' small left i more =
    let had = urgency_had priority awaits opened holder small left i in
    let less =
    urgency_reach priority awaits' opened' holder' had.links left had.task i had.within (more had.links had.task had.within had.chain) in
    let same = had.same in
    omega arith

module _ (awaits opened holder awaits' opened' holder' : List ℕ) (left i : ℕ)
    -- each task with a chain to task i is waited for by the same tasks in both
    (same : (n k : ℕ) → n < left → Chain awaits opened holder n k i
    → (j : ℕ) → Waits awaits opened holder j k ↔ Waits awaits' opened' holder' j k) where
  chain_there : (n j : ℕ) → n ≤ left → Chain awaits opened holder n j i → Chain awaits' opened' holder' n j i
  chain_there zero j l c = c
  chain_there (suc n) j l c =
      (c.0, (same n c.0 (omega arith) c.2 j).0 c.1, chain_there n c.0 (omega arith) c.2)

  chain_back : (n j : ℕ) → n ≤ left → Chain awaits' opened' holder' n j i → Chain awaits opened holder n j i
  chain_back zero j l c = c
  chain_back (suc n) j l c =
      let rest = chain_back n c.0 (omega arith) c.2 in
      (c.0, (same n c.0 (omega arith) rest j).1 c.1, rest)

  pub urgency_kept : (priority : List ℕ) → ((k : ℕ) → get_or priority k 0 ≤ priority_end)
      → task_urgency priority awaits' opened' holder' left i ≡ task_urgency priority awaits opened holder left i
  urgency_kept priority small =
      let down = urgency_more priority awaits opened holder awaits' opened' holder' small left i chain_there in
      let up = urgency_more priority awaits' opened' holder' awaits opened holder small left i chain_back in
      omega arith

-- ---- one task waits for something else

-- the way from the beginning of a chain meets its end
pub chain_meets : (awaits opened holder : List ℕ) (n left j i : ℕ) → n ≤ left → Chain awaits opened holder n j i → meets awaits holder left i j ≡ true
unfolding meets
chain_meets awaits opened holder zero zero j i l e = eq-eqb j i e
chain_meets awaits opened holder zero (suc left) j i l e = rw (eq-eqb j i e)
chain_meets awaits opened holder (suc n) zero j i l c = absurd (omega arith)
chain_meets awaits opened holder (suc n) (suc left) j i l c =
    let on = waits_onward awaits opened holder j c.0 c.1 in
    let less : suc c.0 - 1 ≡ c.0 = omega arith in
    or_second (eqb j i) _ (rw (on, ne_eqb (suc c.0) 0 (λ z. omega arith), less) (chain_meets awaits opened holder n left c.0 i (omega arith) c.2))

module _ (awaits awaits' opened holder : List ℕ) (c i : ℕ) (others : (j : ℕ) → j ≢ c → get_or awaits' j 0 ≡ get_or awaits j 0)
    -- whoever it waits for, before or now: the way from there doesn't come to task i
    (apart : (k : ℕ) → Waits awaits opened holder c k ⊎ Waits awaits' opened holder c k → meets awaits holder task_room i k ≡ false) where
  pub urgency_apart : (priority : List ℕ) → ((k : ℕ) → get_or priority k 0 ≤ priority_end)
      → task_urgency priority awaits' opened holder task_room i ≡ task_urgency priority awaits opened holder task_room i
  urgency_apart priority small = urgency_kept awaits opened holder awaits' opened holder task_room i (λ n k l h j. same n k l h j (eqb j c) refl) priority small
    where
      never : (n k : ℕ) → n < task_room → Chain awaits opened holder n k i
          → Waits awaits opened holder c k ⊎ Waits awaits' opened holder c k → ⊥
      never n k l h w = true≢false (sym (chain_meets awaits opened holder n task_room k i (omega arith) h) ∙ apart k w)

      same : (n k : ℕ) → n < task_room → Chain awaits opened holder n k i → (j : ℕ) (b : Bool) → eqb j c ≡ b
          → Waits awaits opened holder j k ↔ Waits awaits' opened holder j k
      same n k l h j true e =
          let here = eqb-true j c e in (
            λ w. absurd (never n k l h (inl (rw here at w))),
            λ w. absurd (never n k l h (inr (rw here at w))),
          )
      same n k l h j false e =
          let moved = others j (eqb-false j c e) in (
            λ w. record { region = w.region; task_known = w.task_known; region_known = w.region_known; awaited = rw moved w.awaited; held = w.held },
            λ w. record { region = w.region; task_known = w.task_known; region_known = w.region_known; awaited = rw moved at w.awaited; held = w.held },
          )

-- ---- what each call changes

-- whom a task waits for holds the region that it waits for
waits_holder : (awaits opened holder : List ℕ) (j k r : ℕ) → get_or awaits j 0 ≡ suc r → Waits awaits opened holder j k → get_or holder r 0 ≡ suc k
waits_holder awaits opened holder j k r e w = sym (onward_region awaits holder j r e) ∙ waits_onward awaits opened holder j k w

waits_region : (awaits opened holder : List ℕ) (j k : ℕ) (w : Waits awaits opened holder j k) → get_or awaits j 0 ≡ suc w.region
waits_region awaits opened holder j k w = eqb-true (get_or awaits j 0) (suc w.region) w.awaited

module _ (priority awaits opened holder : List ℕ) (small : (k : ℕ) → get_or priority k 0 ≤ priority_end) (long : length awaits ≡ task_room) where
  -- ENTER: task c, which waited for nothing, waits for region r of task h
  pub enter_urgency : (c r h i : ℕ) → get_or awaits c 0 ≡ 0 → get_or holder r 0 ≡ suc h → meets awaits holder task_room i h ≡ false
      → task_urgency priority (set awaits c (suc r)) opened holder task_room i ≡ task_urgency priority awaits opened holder task_room i
  enter_urgency c r h i none held apart =
      urgency_apart awaits (set awaits c (suc r)) opened holder c i (λ j d. get_or-set_other awaits c j (suc r) 0 d) (λ k. ⊎_elim (before k) (now k)) priority small
    where
      before : (k : ℕ) → Waits awaits opened holder c k → meets awaits holder task_room i k ≡ false
      before k w = let some = waits_region awaits opened holder c k w in absurd (omega arith)

      now : (k : ℕ) → Waits (set awaits c (suc r)) opened holder c k → meets awaits holder task_room i k ≡ false
      now k w =
          let here = w.task_known in
          let same = get_or-set_same awaits c (suc r) 0 (omega arith) in
          let there = waits_holder (set awaits c (suc r)) opened holder c k r same w in
          let is : k ≡ h = omega arith in
          rw is apart

  -- where task c leaves the line of region r, which task h holds
  pub leave_urgency : (c r h i : ℕ) → get_or awaits c 0 ≡ suc r → get_or holder r 0 ≡ suc h → meets awaits holder task_room i h ≡ false
      → task_urgency priority (set awaits c 0) opened holder task_room i ≡ task_urgency priority awaits opened holder task_room i
  leave_urgency c r h i some held apart =
      urgency_apart awaits (set awaits c 0) opened holder c i (λ j d. get_or-set_other awaits c j 0 0 d) (λ k. ⊎_elim (before k) (now k)) priority small
    where
      before : (k : ℕ) → Waits awaits opened holder c k → meets awaits holder task_room i k ≡ false
      before k w =
          let there = waits_holder awaits opened holder c k r some w in
          let is : k ≡ h = omega arith in
          rw is apart

      now : (k : ℕ) → Waits (set awaits c 0) opened holder c k → meets awaits holder task_room i k ≡ false
      now k w =
          let here = w.task_known in
          let same = get_or-set_same awaits c 0 0 (omega arith) in
          let not_None = waits_region (set awaits c 0) opened holder c k w in
          absurd (omega arith)

  -- a region that nobody waits for changes hands: nobody's urgency changes
  pub hands_urgency : (r v i : ℕ) → ((j : ℕ) → get_or awaits j 0 ≢ suc r)
      → task_urgency priority awaits opened (set holder r v) task_room i ≡ task_urgency priority awaits opened holder task_room i
  hands_urgency r v i unawaited = urgency_kept awaits opened holder awaits opened (set holder r v) task_room i (λ n k l h j. (there k j, back k j)) priority small
    where
      same : (q j : ℕ) → get_or awaits j 0 ≡ suc q → get_or (set holder r v) q 0 ≡ get_or holder q 0
      same q j e = get_or-set_other holder r q v 0 (λ d. unawaited j (e ∙ ap suc d))

      there : (k j : ℕ) → Waits awaits opened holder j k → Waits awaits opened (set holder r v) j k
      there k j w = record {
        region = w.region;
        task_known = w.task_known;
        region_known = w.region_known;
        awaited = w.awaited;
        held = rw (same w.region j (waits_region awaits opened holder j k w)) w.held;
      }

      back : (k j : ℕ) → Waits awaits opened (set holder r v) j k → Waits awaits opened holder j k
      back k j w = record {
        region = w.region;
        task_known = w.task_known;
        region_known = w.region_known;
        awaited = w.awaited;
        held = rw (same w.region j (waits_region awaits opened (set holder r v) j k w)) at w.held;
      }

  -- EXIT: region r of task h goes to task x, which waited for it
  module _ (r h x i : ℕ) (there : r < length holder) (waited : get_or awaits x 0 ≡ suc r) (held : get_or holder r 0 ≡ suc h)
      (apart : meets awaits holder task_room i h ≡ false) (other : i ≢ x) where
    not_former : (n k : ℕ) → n < task_room → Chain awaits opened holder n k i → k ≢ h
    not_former n k l c e = true≢false (sym (chain_meets awaits opened holder n task_room k i (omega arith) c) ∙ ap (meets awaits holder task_room i) e ∙ apart)

    not_heir : (n k : ℕ) → n < task_room → Chain awaits opened holder n k i → k ≢ x
    not_heir zero k l c e = other (sym c ∙ e)
    not_heir (suc n) k l c e =
        let next = waits_holder awaits opened holder k c.0 r (ap (λ j. get_or awaits j 0) e ∙ waited) c.1 in
        not_former n c.0 (omega arith) c.2 (omega arith)

    forth : (n k : ℕ) → n < task_room → Chain awaits opened holder n k i → (j : ℕ) → Waits awaits opened holder j k
        → Waits (set awaits x 0) opened (set holder r (suc x)) j k
    forth n k l c j w = record {
      region = w.region;
      task_known = w.task_known;
      region_known = w.region_known;
      awaited = rw (get_or-set_other awaits x j 0 0 stays) w.awaited;
      held = rw (get_or-set_other holder r w.region (suc x) 0 elsewhere) w.held;
    }
      where
        elsewhere : w.region ≢ r
        elsewhere e =
            let mine = waits_holder awaits opened holder j k r (waits_region awaits opened holder j k w ∙ ap suc e) w in
            not_former n k l c (omega arith)

        stays : j ≢ x
        stays e =
            let mine = waits_region awaits opened holder j k w in
            let its : get_or awaits j 0 ≡ suc r = ap (λ m. get_or awaits m 0) e ∙ waited in
            elsewhere (omega arith)

    back : (n k : ℕ) → n < task_room → Chain awaits opened holder n k i → (j : ℕ) → Waits (set awaits x 0) opened (set holder r (suc x)) j k
        → Waits awaits opened holder j k
    back n k l c j w = record {
      region = w.region;
      task_known = w.task_known;
      region_known = w.region_known;
      awaited = rw (get_or-set_other awaits x j 0 0 stays) at w.awaited;
      held = rw (get_or-set_other holder r w.region (suc x) 0 elsewhere) at w.held;
    }
      where
        mine : get_or (set awaits x 0) j 0 ≡ suc w.region
        mine = waits_region (set awaits x 0) opened (set holder r (suc x)) j k w

        elsewhere : w.region ≢ r
        elsewhere e =
            let its = waits_holder (set awaits x 0) opened (set holder r (suc x)) j k r (mine ∙ ap suc e) w in
            let now = get_or-set_same holder r (suc x) 0 there in
            not_heir n k l c (omega arith)

        stays : j ≢ x
        stays e =
            let here = w.task_known in
            let gone = get_or-set_same awaits x 0 0 (omega arith) in
            let its : get_or (set awaits x 0) x 0 ≡ suc w.region = ap (λ m. get_or (set awaits x 0) m 0) (sym e) ∙ mine in
            absurd (omega arith)

    pub exit_urgency : task_urgency priority (set awaits x 0) opened (set holder r (suc x)) task_room i ≡ task_urgency priority awaits opened holder task_room i
    exit_urgency =
        urgency_kept awaits opened holder (set awaits x 0) opened (set holder r (suc x)) task_room i (λ n k l c j. (forth n k l c j, back n k l c j)) priority small
