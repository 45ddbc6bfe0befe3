-- A routine that enters and exits a region which its caller holds: nested properly, the region is entered as often behind it as before it.
use Prim.Native.Nat.{ℕ, suc, ◌+◌, ◌-◌, ◌<◌, ◌≤◌}
use mathlib.Core.Path.{◌≡◌, refl, sym, ap, ◌∙◌}
use mathlib.Core.Logic.{◌≢◌, ◌⊎◌, inl, inr, ⊎_elim}
use mathlib.Core.Bool.{Bool, true, false, ◌&&◌, ◌||◌, false≢true}
use mathlib.Core.List.{List, [], ◌∷◌, ◌++◌}
use native.Mathlib.Omega.{arith}
use lib.Dec.{eqb, ltb}
use lib.ListN.{get_or}
use borrow.Author.Tests.{eqb-true, eqb-false, eq-eqb, ltb-true, lt-ltb}
use Rattle.rules.specs.declared.Table.{Table}
use Rattle.rules.specs.declared.Call.{Call}
use Rattle.rules.specs.Numbers.{most_entries, outside, ENTER, EXIT}
use Rattle.rules.specs.Words.{is_zero, every}
use Rattle.rules.specs.Regions.{held_by}
use Rattle.rules.specs.Urgency.{is_open}
use Rattle.rules.specs.Tables.{region_of, with_region}
use Rattle.rules.specs.Validity.{valid}
use Rattle.rules.specs.Refusals.{refusal}
use Rattle.rules.specs.Step.{step}
use Rattle.rules.proofs.Bools.{and_left, and_right, both, or_cases}
use Rattle.rules.proofs.Lists.{every_head, every_tail}
use Rattle.rules.proofs.Entries.{entries_most, entries_some, entered_by, region_same, region_again, region_back}
use Rattle.rules.proofs.Effects.{frame_kept}
use Rattle.rules.proofs.Refusals.{accepted_facts}
use Rattle.rules.proofs.ValidRegions.{entries_fit_lem}
use Rattle.rules.proofs.Validity.{parts_of}
use Rattle.theorems.specs.Kept.{after_all}
use Rattle.theorems.proofs.Kept.{valid_kept, refused_same}
use Rattle.lasting_theorems.specs.Balanced.{enters, exits, balanced, NestedBalanced, Held, Protected, StillHeld, InItsTurn, StillHeldInTurn, NothingLeft, FreedAtMatch}
use Rattle.lasting_theorems.proofs.Holding.{holder_of_lem, closed_elected, enter_table, exit_table, exit_lets, left, mark_parts, runs_then}

-- ---- nested properly

module _ (task r most deepest : ℕ) where
  -- a list that is balanced by itself, before one that begins at depth d
  append_balanced : (xs ys : List Call) (k d : ℕ) → most + d ≤ deepest → balanced task r most k xs ≡ true → balanced task r deepest d ys ≡ true
      → balanced task r deepest (k + d) (xs ++ ys) ≡ true
  append_balanced [] ys k d l b e = let z : k + d ≡ d = omega (arith, eqb-true k 0 b) in rw z e
  append_balanced (c ∷ xs) ys k d l b e = go (enters task r c) (exits task r c) refl refl (λ j. append_balanced xs ys j d l)
    where
      Rest : Type 0
      Rest = (j : ℕ) → balanced task r most j xs ≡ true → balanced task r deepest d ys ≡ true → balanced task r deepest (j + d) (xs ++ ys) ≡ true

      go : (x y : Bool) → enters task r c ≡ x → exits task r c ≡ y → Rest → balanced task r deepest (k + d) (c ∷ (xs ++ ys)) ≡ true
      go true y f g ih =
          let w : (ltb k most && balanced task r most (suc k) xs) ≡ true = rw f at b in
          let deeper : suc (k + d) ≡ suc k + d = omega arith in
          let room = ltb-true k most (and_left _ _ w) in
          rw f (both (lt-ltb (k + d) deepest (omega arith)) (rw deeper (ih (suc k) (and_right (ltb k most) _ w) e)))
      go false true f g ih =
          let w : (ltb 0 k && balanced task r most (k - 1) xs) ≡ true = rw (f, g) at b in
          let some = ltb-true 0 k (and_left _ _ w) in
          let back : k + d - 1 ≡ (k - 1) + d = omega arith in
          rw (f, g, back) (both (lt-ltb 0 (k + d) (omega arith)) (ih (k - 1) (and_right (ltb 0 k) _ w) e))
      go false false f g ih = rw (f, g) (ih k (rw (f, g) at b) e)

pub nested_balanced : NestedBalanced
nested_balanced task r most =
    record {
      empty = refl;
      behind = λ xs ys b e. append_balanced task r most most xs ys 0 0 (omega arith) b e;
      around =
          λ c d xs x y b.
          let (op, by, at) = mark_parts EXIT task r d y in
          let ends : balanced task r (suc most) 1 (d ∷ []) ≡ true = simp (op, by, at, eq-eqb task task refl, eq-eqb r r refl) in
          rw x (both (lt-ltb 0 (suc most) (omega arith)) (append_balanced task r most (suc most) xs (d ∷ []) 0 1 (omega arith) b ends));
    }

-- ---- a routine

-- the task's calls on the region
abbrev own : ℕ → ℕ → Call → Bool
own task r c = enters task r c || exits task r c

-- a reason why the task is elected whenever one of these comes, which holds from call to call
record Turns (task r : ℕ) (Turn : Table → List Call → Type 0) : Type 0 where
  now : (t : Table) (c : Call) (cs : List Call) → valid t ≡ true → get_or t.holder r 0 ≡ suc task → Turn t (c ∷ cs) → own task r c ≡ true
      → t.elected ≡ task
  later : (t : Table) (c : Call) (cs : List Call) → valid t ≡ true → (own task r c ≡ true → (step t c).table.elected ≡ t.elected)
      → Turn t (c ∷ cs) → Turn (step t c).table cs

-- from n entries on, which leave room for so many more
module _ (task r n most : ℕ) (some : n ≢ 0) (fits : n + most ≤ most_entries) (Turn : Table → List Call → Type 0) (turns : Turns task r Turn) where
  abbrev At : ℕ → Table → Type 0
  At depth t = region_of t r ≡ entered_by task (n + depth)

  abbrev with : ℕ → Table → Table
  with depth t = with_region r (entered_by task (n + depth)) t

  module _ (t : Table) (v : valid t ≡ true) (k : ℕ) (is : At k t) (c : Call) where
    enter_step : t.elected ≡ task → enters task r c ≡ true → k < most → (step t c).table ≡ with (suc k) t
    enter_step runs x l =
        let m = mark_parts ENTER task r c x in
        let deeper : suc (n + k) ≡ n + suc k = omega arith in
        enter_table t v task r (n + k) is c runs m.1 m.2 m.0 (omega arith) ∙ ap (λ j. with_region r (entered_by task j) t) deeper

    exit_step : t.elected ≡ task → exits task r c ≡ true → 0 < k → (step t c).table ≡ with (k - 1) t
    exit_step runs y l =
        let m = mark_parts EXIT task r c y in
        exit_table t v task r (n + k) is c runs m.1 m.2 m.0 (n + (k - 1)) (omega arith) (omega arith)

    at_with : (j : ℕ) → (step t c).table ≡ with j t → At j (step t c).table
    at_with j e =
        ap (λ u. region_of u r) e ∙ region_same r (entered_by task (n + j)) t (parts_of t v).shape (holder_of_lem t (parts_of t v) task r (ap (λ x. x.holder) is)).room

  -- what there is behind the calls
  record Behind (t : Table) (cs : List Call) : Type 0 where
    held : Held task r t cs
    region : At 0 (after_all t cs)
    table : every (own task r) cs ≡ true → after_all t cs ≡ with 0 t

  routine : (cs : List Call) (t : Table) (k : ℕ) → valid t ≡ true → At k t → Turn t cs → balanced task r most k cs ≡ true → Behind t cs
  routine [] t k v is turn b =
      let now : At 0 t = is ∙ ap (λ j. entered_by task (n + j)) (eqb-true k 0 b) in
      record { held = tt; region = now; table = λ m. sym (region_back r t) ∙ ap (λ x. with_region r x t) now }
  routine (c ∷ cs) t k v is turn b = go (enters task r c) (exits task r c) refl refl (routine cs (step t c).table)
    where
      Rest : Type 0
      Rest =
          (j : ℕ) → valid (step t c).table ≡ true → At j (step t c).table → Turn (step t c).table cs → balanced task r most j cs ≡ true
          → Behind (step t c).table cs

      runs : own task r c ≡ true → t.elected ≡ task
      runs = turns.now t c cs v (ap (λ x. x.holder) is) turn

      next : Rest → (j : ℕ) → At j (step t c).table → balanced task r most j cs ≡ true → (own task r c ≡ true → (step t c).table ≡ with j t)
          → Behind t (c ∷ cs)
      next ih j now rest same =
          let more = ih j (valid_kept t c v) now (turns.later t c cs v (λ m. ap (λ u. u.elected) (same m)) turn) rest in
          record {
            held = (eq-eqb _ _ (ap (λ x. x.holder) now), more.held);
            region = more.region;
            table =
                λ m.
                more.table (every_tail _ c cs m)
                ∙ ap (with 0) (same (every_head _ c cs m))
                ∙ region_again r (entered_by task (n + 0)) t (entered_by task (n + j));
          }

      go : (x y : Bool) → enters task r c ≡ x → exits task r c ≡ y → Rest → Behind t (c ∷ cs)
      go true y e f ih =
          let w : (ltb k most && balanced task r most (suc k) cs) ≡ true = rw e at b in
          let same = enter_step t v k is c (runs (rw e refl)) e (ltb-true k most (and_left _ _ w)) in
          next ih (suc k) (at_with t v k is c (suc k) same) (and_right (ltb k most) _ w) (λ m. same)
      go false true e f ih =
          let w : (ltb 0 k && balanced task r most (k - 1) cs) ≡ true = rw (e, f) at b in
          let same = exit_step t v k is c (runs (rw (e, f) refl)) f (ltb-true 0 k (and_left _ _ w)) in
          next ih (k - 1) (at_with t v k is c (k - 1) same) (and_right (ltb 0 k) _ w) (λ m. same)
      go false false e f ih =
          next ih k (left t v task r (n + k) is c e f ∙ is) (rw (e, f) at b) (λ m. absurd (false≢true (simp (e, f) at m)))

-- ---- the three reasons

-- no call changes a mark
marks_kept : (t : Table) (c : Call) → (step t c).table.opened ≡ t.opened
unfolding step
marks_kept t c = go (is_zero (refusal t c)) refl
  where
    go : (b : Bool) → is_zero (refusal t c) ≡ b → (step t c).table.opened ≡ t.opened
    go true z = rw z (ap (λ f. f.opened) (frame_kept t c))
    go false z = rw z refl

abbrev Closed : ℕ → Table → Type 0
Closed r t = is_open (get_or t.opened r 0) ≡ false

closed_on : (r : ℕ) (t : Table) (c : Call) → Closed r t → Closed r (step t c).table
closed_on r t c h = ap (λ o. is_open (get_or o r 0)) (marks_kept t c) ∙ h

closed_turns : (task r : ℕ) → Turns task r (λ t cs. Closed r t)
closed_turns task r =
    record { now = λ t c cs v is closed m. closed_elected t (parts_of t v) task r is closed; later = λ t c cs v same closed. closed_on r t c closed }

given_turns : (task r : ℕ) → Turns task r (InItsTurn task r)
given_turns task r = record { now = λ t c cs v is turn m. turn.0 m; later = λ t c cs v same turn. turn.1 }

alone_turns : (task r : ℕ) → Turns task r (λ t cs. (t.elected ≡ task) × (every (own task r) cs ≡ true))
alone_turns task r =
    record {
      now = λ t c cs v is turn m. turn.0;
      later = λ t c cs v same turn. (same (every_head _ c cs turn.1) ∙ turn.0, every_tail _ c cs turn.1);
    }

-- ---- a region that a task holds in a valid table

module _ (t : Table) (task r : ℕ) (v : valid t ≡ true) (is : held_by task (region_of t r) ≡ true) where
  n : ℕ
  n = (region_of t r).entries

  counted : (n ≢ 0) × (n ≤ most_entries)
  unfolding n
  counted =
      let p = parts_of t v in
      let its = eqb-true (get_or t.holder r 0) (suc task) is in
      let fit = entries_fit_lem t p r (holder_of_lem t p task r its).room in
      let some = entries_some (get_or t.holder r 0) n fit (omega arith) in
      (omega arith, entries_most (get_or t.holder r 0) n fit)

  inner : task ≢ outside
  inner = (holder_of_lem t (parts_of t v) task r (eqb-true _ _ is)).inner

  its_count : region_of t r ≡ entered_by task n
  unfolding n
  its_count i = record { holder = eqb-true (get_or t.holder r 0) (suc task) is i; entries = get_or t.entries r 0 }

  now : region_of t r ≡ entered_by task (n + 0)
  now = let none : n ≡ n + 0 = omega arith in its_count ∙ ap (entered_by task) none

  behind : (Turn : Table → List Call → Type 0) (turns : Turns task r Turn) (cs : List Call) → Turn t cs
      → balanced task r (most_entries - (region_of t r).entries) 0 cs ≡ true
      → Behind task r n (most_entries - n) counted.0 (omega (arith, counted.1)) Turn turns t cs
  unfolding n
  behind Turn turns cs turn b = routine task r n (most_entries - n) counted.0 (omega (arith, counted.1)) Turn turns cs t 0 v now turn b

pub still_held_in_turn : StillHeldInTurn
still_held_in_turn t task r cs v is b turn =
    let e = behind t task r v is (InItsTurn task r) (given_turns task r) cs turn b in (e.held, e.region ∙ sym (now t task r v is))

-- who holds a closed region runs
protected : (task r : ℕ) (cs : List Call) (t : Table) → valid t ≡ true → Closed r t → Held task r t cs → Protected task r t cs
protected task r [] t v closed h = tt
protected task r (c ∷ cs) t v closed h =
    let w = valid_kept t c v in
    let still = closed_on r t c closed in
    (h.0, closed_elected (step t c).table (parts_of _ w) task r (eqb-true _ _ h.0) still, protected task r cs (step t c).table w still h.1)

pub still_held : StillHeld
still_held t task r cs v closed is b =
    let e = behind t task r v is (λ u xs. Closed r u) (closed_turns task r) cs closed b in
    (protected task r cs t v closed e.held, e.region ∙ sym (now t task r v is))

-- a task that isn't elected is refused with whatever it calls
refused_all : (task r : ℕ) (cs : List Call) (t : Table) → task ≢ outside → t.elected ≢ task → every (own task r) cs ≡ true → after_all t cs ≡ t
refused_all task r [] t inner other m = refl
refused_all task r (c ∷ cs) t inner other m =
    let same = refused_same t c (λ z. other (runs_then t task c inner by z)) in
    ap (λ u. after_all u cs) same ∙ refused_all task r cs t inner other (every_tail _ c cs m)
  where
    by : c.caller ≡ task
    by = ⊎_elim (λ x. (mark_parts ENTER task r c x).1) (λ y. (mark_parts EXIT task r c y).1) (or_cases (enters task r c) _ (every_head (own task r) c cs m))

pub nothing_left : NothingLeft
nothing_left t task r cs v is b m = go (eqb t.elected task) refl
  where
    go : (d : Bool) → eqb t.elected task ≡ d → after_all t cs ≡ t
    go true e =
        (behind t task r v is (λ u xs. (u.elected ≡ task) × (every (own task r) xs ≡ true)) (alone_turns task r) cs (eqb-true _ _ e, m) b).table m
        ∙ ap (λ x. with_region r x t) (sym (now t task r v is))
        ∙ region_back r t
    go false e = refused_all task r cs t (inner t task r v is) (eqb-false _ _ e) m

-- one call: only the elected holder's EXIT of its only entry lets the region go
module _ (t : Table) (task r : ℕ) (c : Call) (v : valid t ≡ true) (is : held_by task (region_of t r) ≡ true) where
  abbrev Holds : Type 0
  Holds = held_by task (region_of (step t c).table r) ≡ true

  abbrev Matches : Type 0
  Matches = (exits task r c ≡ true) × ((region_of t r).entries ≡ 1) × (t.elected ≡ task)

  still : (m : ℕ) → (step t c).table ≡ with_region r (entered_by task m) t → Holds
  still m e =
      let room = (holder_of_lem t (parts_of t v) task r (eqb-true _ _ is)).room in
      eq-eqb _ _ (ap (λ u. get_or u.holder r 0) e ∙ ap (λ x. x.holder) (region_same r (entered_by task m) t (parts_of t v).shape room))

  refused_holds : refusal t c ≢ 0 → Holds
  refused_holds refused = ap (λ u. held_by task (region_of u r)) (refused_same t c refused) ∙ is

  -- an ENTER, accepted or refused
  enter_holds : enters task r c ≡ true → Holds
  unfolding n
  enter_holds x = go (is_zero (refusal t c)) refl
    where
      go : (b : Bool) → is_zero (refusal t c) ≡ b → Holds
      go false z = refused_holds (eqb-false _ 0 z)
      go true z =
          let (op, by, at) = mark_parts ENTER task r c x in
          let more : (region_of t r).entries ≢ most_entries =
          eqb-false _ _ (simp (eq-eqb c.operation ENTER op, at, by, is) at (accepted_facts t c (eqb-true _ 0 z)).may_enter) in
          let runs = runs_then t task c (inner t task r v is) by (eqb-true _ 0 z) in
          still _ (enter_table t v task r _ (its_count t task r v is) c runs by at op (omega (arith, (counted t task r v is).1)))

  exit_holds : exits task r c ≡ true → t.elected ≡ task → (region_of t r).entries ≢ 1 → Holds
  unfolding n
  exit_holds y runs more =
      let (op, by, at) = mark_parts EXIT task r c y in
      let m = (region_of t r).entries - 1 in
      still m (exit_table t v task r _ (its_count t task r v is) c runs by at op m (omega (arith, (counted t task r v is).0)) (omega (arith, (counted t task r v is).0)))

  freed : Holds ⊎ Matches
  freed = go (enters task r c) (exits task r c) (eqb (region_of t r).entries 1) (eqb t.elected task) refl refl refl refl
    where
      go : (x y z w : Bool) → enters task r c ≡ x → exits task r c ≡ y → eqb (region_of t r).entries 1 ≡ z → eqb t.elected task ≡ w → Holds ⊎ Matches
      go x true true true e f g k = inr (f, eqb-true _ _ g, eqb-true _ _ k)
      go x true false true e f g k = inl (exit_holds f (eqb-true _ _ k) (eqb-false _ _ g))
      go x true z false e f g k =
          inl (refused_holds (λ q. eqb-false _ _ k (runs_then t task c (inner t task r v is) (mark_parts EXIT task r c f).1 q)))
      go true false z w e f g k = inl (enter_holds e)
      go false false z w e f g k = inl (ap (held_by task) (left t v task r _ (its_count t task r v is) c e f) ∙ is)

  frees : Matches → held_by task (region_of (step t c).table r) ≡ false
  unfolding n
  frees (y, one, runs) =
      let (op, by, at) = mark_parts EXIT task r c y in
      exit_lets t v task r _ (its_count t task r v is) c runs by at op one

pub freed_at_match : FreedAtMatch
freed_at_match t task r c v is = (
  (λ free. ⊎_elim (λ h. absurd (false≢true (sym free ∙ h))) (λ q. q) (freed t task r c v is)),
  frees t task r c v is,
)
