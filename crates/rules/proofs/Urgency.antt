-- Urgency in words: at most one's own priority and that of whoever waits for one through any chain, and the priority of one of these.
use Prim.Native.Nat.{ℕ, zero, suc, ◌+◌, ◌-◌, ◌<◌, ◌≤◌}
use mathlib.Core.Path.{◌≡◌, refl, sym}
use mathlib.Core.Logic.{⊎_elim}
use mathlib.Core.Bool.{Bool, true, false}
use mathlib.Core.List.{List}
use native.Mathlib.Omega.{arith}
use lib.Dec.{leb, ltb}
use lib.ListN.{get_or, length, get_or-eq_default}
use borrow.Author.Tests.{eqb-true, leb-true, leb-false, ltb-true, ltb-false}
use Rattle.rules.specs.Numbers.{task_room, region_room, priority_end}
use Rattle.rules.specs.Words.{is_zero}
use Rattle.rules.specs.Election.{smallest}
use Rattle.rules.specs.Urgency.{awaiting, holding, nobody_awaits, state_with, states_with, urgency_by, region_urgency, task_urgency, urgencies}
use Rattle.rules.proofs.Counts.{below_at}
use Rattle.rules.proofs.Election.{smallest_le, smallest_had}
use Rattle.rules.proofs.Smallest.{smallest_none}
use Rattle.rules.proofs.Columns.{length_column, column_at, column_past, column_is}
use Rattle.rules.proofs.Chains.{Waits, Chain, chain_on}

-- what each priority of a table is, and what a number past them is taken for
pub small_everywhere : (priority : List ℕ) → length priority ≡ task_room → ((i : ℕ) → i < task_room → get_or priority i 0 < priority_end)
    → (i : ℕ) → get_or priority i 0 ≤ priority_end
small_everywhere priority e small i = go (ltb i task_room) refl
  where
    go : (b : Bool) → ltb i task_room ≡ b → get_or priority i 0 ≤ priority_end
    go true f = let s = small i (ltb-true i task_room f) in omega arith
    go false f =
        let past = ltb-false i task_room f in
        let none = get_or-eq_default priority 0 {n = i} (omega arith) in
        omega arith

module _ (priority awaits opened holder : List ℕ) where
  -- ---- at most

  pub urgency_own : (left i : ℕ) → task_urgency priority awaits opened holder left i ≤ get_or priority i 0
  unfolding task_urgency urgency_by
  urgency_own left i = omega arith

  pub urgency_link : (left j i : ℕ) → Waits awaits opened holder j i
      → task_urgency priority awaits opened holder (suc left) i ≤ task_urgency priority awaits opened holder left j
  unfolding task_urgency urgency_by region_urgency
  urgency_link left j i w =
      let region = smallest_le (holding opened holder i) (region_urgency priority awaits opened holder (suc left)) region_room w.region w.region_known w.held in
      let task = smallest_le (awaiting awaits w.region) (task_urgency priority awaits opened holder left) task_room j w.task_known w.awaited in
      omega arith

  pub urgency_chain : (n left j i : ℕ) → Chain awaits opened holder n j i
      → task_urgency priority awaits opened holder (n + left) i ≤ task_urgency priority awaits opened holder left j
  urgency_chain zero left j i e = let none : 0 + left ≡ left = omega arith in rw (none, e) (omega arith)
  urgency_chain (suc n) left j i c =
      let rest = urgency_chain n (suc left) c.0 i c.2 in
      let first = urgency_link left j c.0 c.1 in
      let moved : suc n + left ≡ n + suc left = omega arith in
      rw moved (omega arith)

  -- the same of priorities, through no more links than are left
  pub urgency_reach : (n left j i : ℕ) → n ≤ left → Chain awaits opened holder n j i → task_urgency priority awaits opened holder left i ≤ get_or priority j 0
  urgency_reach n left j i l c =
      let all : left ≡ n + (left - n) = omega arith in
      let chain = urgency_chain n (left - n) j i c in
      let own = urgency_own (left - n) j in
      rw all (omega arith)

  -- ---- the column of all

  pub length_urgencies : length (urgencies priority awaits opened holder) ≡ task_room
  unfolding urgencies
  length_urgencies = length_column task_room _

  pub urgencies_at : (i : ℕ) → i < task_room → get_or (urgencies priority awaits opened holder) i 0 ≡ task_urgency priority awaits opened holder task_room i
  unfolding urgencies
  urgencies_at i l = column_at task_room _ i l

  pub urgencies_past : (i : ℕ) → task_room ≤ i → get_or (urgencies priority awaits opened holder) i 0 ≡ 0
  unfolding urgencies
  urgencies_past i l = column_past task_room _ i l

  pub urgencies_own : (i : ℕ) → i < task_room → get_or (urgencies priority awaits opened holder) i 0 ≤ get_or priority i 0
  urgencies_own i l = rw (urgencies_at i l) (urgency_own task_room i)

  -- ---- where nobody waits for a region

  module _ (nobody : nobody_awaits awaits ≡ true) where
    region_quiet : (left r : ℕ) → region_urgency priority awaits opened holder left r ≡ priority_end
    unfolding region_urgency nobody_awaits
    region_quiet zero r = refl
    region_quiet (suc left) r =
        smallest_none (awaiting awaits r) (urgency_by priority awaits opened holder (region_urgency priority awaits opened holder left)) task_room
        (λ i l h.
        let none = eqb-true (get_or awaits i 0) 0 (below_at (λ j. is_zero (get_or awaits j 0)) task_room i nobody l) in
        let some = eqb-true (get_or awaits i 0) (suc r) h in
        absurd (omega arith))

    pub task_quiet : (left i : ℕ) → get_or priority i 0 ≤ priority_end → task_urgency priority awaits opened holder left i ≡ get_or priority i 0
    unfolding task_urgency urgency_by
    task_quiet left i small =
        let none =
        smallest_none (holding opened holder i) (region_urgency priority awaits opened holder left) region_room (λ r l h. region_quiet left r) in
        omega arith

    pub urgencies_quiet : length priority ≡ task_room → ((i : ℕ) → i < task_room → get_or priority i 0 ≤ priority_end)
        → urgencies priority awaits opened holder ≡ priority
    unfolding urgencies
    urgencies_quiet e small = column_is task_room _ priority e (λ i l. task_quiet task_room i (small i l))

  -- ---- one of them has it

  -- of those that wait for task i through at most `left` links
  pub record Had (left i : ℕ) : Type 0 where
    pub links : ℕ
    pub task : ℕ
    pub within : links ≤ left
    pub chain : Chain awaits opened holder links task i
    pub same : get_or priority task 0 ≡ task_urgency priority awaits opened holder left i

  module _ (small : (i : ℕ) → get_or priority i 0 ≤ priority_end) where
    own : (left i : ℕ) → task_urgency priority awaits opened holder left i ≡ get_or priority i 0 → Had left i
    own left i e = record { links = 0; task = i; within = omega arith; chain = refl; same = sym e }

    pub urgency_had : (left i : ℕ) → Had left i
    unfolding task_urgency urgency_by region_urgency
    urgency_had zero i =
        let none = smallest_none (holding opened holder i) (region_urgency priority awaits opened holder zero) region_room (λ r l h. refl) in
        let s = small i in
        own zero i (omega arith)
    urgency_had (suc left) i = go (leb (get_or priority i 0) least) refl (urgency_had left)
      where
        least : ℕ
        least = smallest region_room (holding opened holder i) (region_urgency priority awaits opened holder (suc left))

        go : (b : Bool) → leb (get_or priority i 0) least ≡ b → ((k : ℕ) → Had left k) → Had (suc left) i
        go true e ih = let l = leb-true (get_or priority i 0) least e in own (suc left) i (omega arith)
        go false e ih =
            let l = leb-false (get_or priority i 0) least e in
            let s = small i in
            ⊎_elim (λ p. absurd (omega arith)) asked (smallest_had (holding opened holder i) _ region_room)
          where
            asked : (r : ℕ) × (r < region_room) × (holding opened holder i r ≡ true) × (region_urgency priority awaits opened holder (suc left) r ≡ least)
                → Had (suc left) i
            asked q =
                let l = leb-false (get_or priority i 0) least e in
                let s = small i in
                let v = q.3 in
                ⊎_elim (λ p. absurd (omega arith))
                (λ a.
                let k = ih a.0 in
                let w = a.3 in
                let within = k.within in
                let same = k.same in
                record {
                  links = suc k.links;
                  task = k.task;
                  within = omega arith;
                  chain =
                      chain_on awaits opened holder k.links k.task a.0 i k.chain
                      (record { region = q.0; task_known = a.1; region_known = q.1; awaited = a.2; held = q.2 });
                  same = omega arith;
                })
                (smallest_had (awaiting awaits q.0) (task_urgency priority awaits opened holder left) task_room)

-- ---- the states, among them that of waiting for a region

module _ (awaits states : List ℕ) where
  pub length_states : length (states_with awaits states) ≡ task_room
  unfolding states_with
  length_states = length_column task_room _

  pub states_at : (i : ℕ) → i < task_room → get_or (states_with awaits states) i 0 ≡ state_with (get_or awaits i 0) (get_or states i 0)
  unfolding states_with
  states_at i l = column_at task_room _ i l

  pub states_past : (i : ℕ) → task_room ≤ i → get_or (states_with awaits states) i 0 ≡ 0
  unfolding states_with
  states_past i l = column_past task_room _ i l

  -- where nobody waits for a region they are as stored
  pub states_quiet : nobody_awaits awaits ≡ true → length states ≡ task_room → states_with awaits states ≡ states
  unfolding states_with nobody_awaits
  states_quiet nobody e =
      column_is task_room _ states e (λ i l. rw (below_at (λ j. is_zero (get_or awaits j 0)) task_room i nobody l))
