-- What validity says of one task: its row below the count, zeros past it, and who runs.
use Prim.Native.Nat.{ℕ, ◌<◌, ◌≤◌}
use mathlib.Core.Path.{◌≡◌, refl, ◌∙◌, ap}
use mathlib.Core.Logic.{◌≢◌, ⊎_elim}
use mathlib.Core.Bool.{Bool, true, false, cond, not, ◌&&◌, ◌||◌, false≢true}
use native.Mathlib.Omega.{arith}
use lib.Dec.{ltb, eqb, leb}
use lib.ListN.{get_or, length, get_or-eq_default}
use borrow.Author.Tests.{eqb-true, ltb-true, ltb-false, lt-ltb, le-ltb}
use Rattle.rules.specs.declared.Table.{Table}
use Rattle.rules.specs.Numbers.{task_room, priority_end, list_end, nobody}
use Rattle.rules.specs.Words.{is_zero}
use Rattle.rules.specs.Tasks.{waiting}
use Rattle.rules.specs.Regions.{held}
use Rattle.rules.specs.Election.{lowest, ready_at, is_best, best_ready}
use Rattle.rules.specs.Tables.{states_of, urgencies_of, closed_of, election_of}
use Rattle.rules.specs.Validity.{shaped, priorities_in_range, lists_in_range, operators_in_range, zero_past, zero_past_counts, rest_right, state_right, states_right}
use Rattle.rules.specs.Checks.{row_right, row_zero, row_fits, tasks_right, holder_right}
use Rattle.rules.proofs.Bools.{given, shown, ◌&◌, and_left, and_right}
use Rattle.rules.proofs.Counts.{below_at, below_all, within_at, past_at}
use Rattle.rules.proofs.Election.{lowest_is, election_held, election_free}
use Rattle.rules.proofs.States.{ready_stored, ready_free}
use Rattle.rules.proofs.Rules.{Rules, Parts}

-- ---- a row that is right, test by test

pub record Row (priority state arrived list operator : ℕ) : Type 0 where
  pub priority_fits : ltb priority priority_end ≡ true
  pub arrived_fits : ltb arrived list_end ≡ true
  pub list_fits : ltb list list_end ≡ true
  pub operator_fits : leb operator 1 ≡ true
  pub rest : (eqb state waiting || (is_zero list && is_zero operator)) ≡ true
  pub state_right : state_right state arrived list operator ≡ true

module _ (priority state arrived list operator : ℕ) where
  pub row_given : row_right priority state arrived list operator ≡ true → Row priority state arrived list operator
  unfolding row_right
  row_given h =
      let (p, (a, (l, (o, (r, (s, rest)))))) = given _ h in
      record { priority_fits = p; arrived_fits = a; list_fits = l; operator_fits = o; rest = r; state_right = s }

  pub row_shown : Row priority state arrived list operator → row_right priority state arrived list operator ≡ true
  unfolding row_right
  row_shown r = shown _ (r.priority_fits & r.arrived_fits & r.list_fits & r.operator_fits & r.rest & r.state_right & tt)

-- row i of t: right, zero, and right test by test
abbrev right_at : Table → ℕ → Bool
right_at t i = row_right (get_or t.priority i 0) (get_or t.state i 0) (get_or t.arrived i 0) (get_or t.list i 0) (get_or t.operator i 0)

abbrev pub zero_at : Table → ℕ → Bool
zero_at t i = row_zero (get_or t.priority i 0) (get_or t.state i 0) (get_or t.arrived i 0) (get_or t.list i 0) (get_or t.operator i 0)

abbrev pub RowAt : Table → ℕ → Type 0
RowAt t i = Row (get_or t.priority i 0) (get_or t.state i 0) (get_or t.arrived i 0) (get_or t.list i 0) (get_or t.operator i 0)

-- ---- the list's rules on tasks, gathered

pub tasks_gathered : (t : Table) → Rules t → tasks_right t.tasks t.priority t.state t.arrived t.list t.operator ≡ true
unfolding tasks_right row_fits row_zero priorities_in_range lists_in_range operators_in_range rest_right states_right zero_past zero_past_counts
tasks_gathered t r = below_all _ task_room (λ i k. go i k (ltb i t.tasks) refl)
  where
    go : (i : ℕ) → i < task_room → (b : Bool) → ltb i t.tasks ≡ b → cond (ltb i t.tasks) (right_at t i) (zero_at t i) ≡ true
    go i k true e =
        let l = ltb-true i t.tasks e in
        rw e
        (row_shown _ _ _ _ _ (record {
          priority_fits = within_at _ _ _ i r.priorities l k;
          arrived_fits = within_at _ _ _ i r.events l k;
          list_fits = within_at _ _ _ i r.lists l k;
          operator_fits = within_at _ _ _ i r.operators l k;
          rest = within_at _ _ _ i r.rest l k;
          state_right = within_at _ _ _ i r.states l k;
        }))
    go i k false e =
        let l = ltb-false i t.tasks e in
        let (p, (s, (a, (w, (o, rest))))) = given _ r.past_counts in
        rw e
        (shown _
        (past_at _ _ _ i p l k & past_at _ _ _ i s l k & past_at _ _ _ i a l k & past_at _ _ _ i w l k & past_at _ _ _ i o l k & tt))

-- ---- what they say of one task

module _ (t : Table) (right : tasks_right t.tasks t.priority t.state t.arrived t.list t.operator ≡ true) where
  -- below the count it is right, past it zero
  pub row_right_lem : (i : ℕ) → i < t.tasks → i < task_room → RowAt t i
  unfolding tasks_right row_fits
  row_right_lem i l k = row_given _ _ _ _ _ (simp (lt-ltb i t.tasks l) at (below_at _ task_room i right k))

  pub row_zero_lem : (i : ℕ) → t.tasks ≤ i → i < task_room → zero_at t i ≡ true
  unfolding tasks_right row_fits
  row_zero_lem i l k = simp (le-ltb i t.tasks l) at (below_at _ task_room i right k)

  -- a ready task is below the count
  pub ready_below : shaped t ≡ true → (i : ℕ) → ready_at t.state i ≡ true → i < t.tasks
  unfolding shaped row_zero
  ready_below shape i h = go (ltb i t.tasks) (ltb i task_room) refl refl
    where
      long : length t.state ≡ task_room
      long = eqb-true _ _ (given _ shape).1.0

      go : (b c : Bool) → ltb i t.tasks ≡ b → ltb i task_room ≡ c → i < t.tasks
      go true c e f = ltb-true i t.tasks e
      go false true e f =
          let zeros = row_zero_lem i (ltb-false i t.tasks e) (ltb-true i task_room f) in
          let zero-state : get_or t.state i 0 ≡ 0 = eqb-true _ 0 (given _ zeros).1.0 in
          absurd (false≢true (rw zero-state at h))
      go false false e f =
          let past : get_or t.state i 0 ≡ 0 = get_or-eq_default t.state 0 (rw long (ltb-false i task_room f)) in
          absurd (false≢true (rw past at h))

-- every priority number is below 256, also past the count, where it is 0
pub priority_small : (t : Table) → tasks_right t.tasks t.priority t.state t.arrived t.list t.operator ≡ true
    → (i : ℕ) → i < task_room → get_or t.priority i 0 < priority_end
unfolding row_zero
priority_small t right i k = go (ltb i t.tasks) refl
  where
    go : (b : Bool) → ltb i t.tasks ≡ b → get_or t.priority i 0 < priority_end
    go true e = ltb-true _ priority_end (row_right_lem t right i (ltb-true i t.tasks e) k).priority_fits
    go false e =
        let none : get_or t.priority i 0 ≡ 0 = eqb-true _ 0 (given _ (row_zero_lem t right i (ltb-false i t.tasks e) k)).0 in
        omega arith

-- ---- who runs: the elected task, if there is one, is ready, so that it waits for no region and is below the count

pub length_states_of : (t : Table) → shaped t ≡ true → length t.state ≡ task_room
unfolding shaped
length_states_of t shape = eqb-true _ _ (given _ shape).1.0

pub elected_runs : (t : Table) → Parts t → t.elected ≢ nobody → ready_at (states_of t) t.elected ≡ true
unfolding holder_right best_ready is_best
elected_runs t p n = rw p.elected (go (is_zero (held (closed_of t))) refl)
  where
    best : lowest task_room (is_best (states_of t) (urgencies_of t)) ≢ nobody → ready_at (states_of t) (lowest task_room (is_best (states_of t) (urgencies_of t))) ≡ true
    best m =
        ⊎_elim (λ q. absurd (m q.0)) (λ q. and_left _ _ q.passing) (lowest_is (is_best (states_of t) (urgencies_of t)) task_room (omega arith))

    go : (b : Bool) → is_zero (held (closed_of t)) ≡ b → ready_at (states_of t) (election_of t) ≡ true
    go true e = let free = election_free (states_of t) (urgencies_of t) (closed_of t) (ap not e) in rw free (best (λ z. n (p.elected ∙ free ∙ z)))
    go false e =
        rw (election_held (states_of t) (urgencies_of t) (closed_of t) (ap not e)) (and_right (leb (held (closed_of t)) t.tasks) _ (rw e at p.holder))

module _ (t : Table) (p : Parts t) (n : t.elected ≢ nobody) where
  pub elected_ready : ready_at t.state t.elected ≡ true
  elected_ready = ready_stored t.awaits t.state (length_states_of t p.shape) t.elected (elected_runs t p n)

  pub elected_free : get_or t.awaits t.elected 0 ≡ 0
  elected_free = ready_free t.awaits t.state (length_states_of t p.shape) t.elected (elected_runs t p n)

  pub elected_below : t.elected < t.tasks
  elected_below = ready_below t p.tasks p.shape t.elected elected_ready
