-- What validity says of one region: its mark, its holder, its count of entries; that the closed ones' holder is ready and elected; and who waits.
use Prim.Native.Nat.{ℕ, ◌-◌, ◌<◌, ◌≤◌}
use mathlib.Core.Path.{◌≡◌, refl, sym, ◌∙◌}
use mathlib.Core.Logic.{◌⊎◌, ⊎_elim}
use mathlib.Core.Bool.{Bool, true, false, cond, not, ◌&&◌, ◌||◌, false≢true}
use native.Mathlib.Omega.{arith}
use lib.Dec.{ltb, eqb, leb}
use lib.ListN.{get_or}
use borrow.Author.Tests.{eqb-true, eqb-false, eq-eqb, ltb-true, ltb-false, le-ltb, le-leb, leb-true}
use Rattle.rules.specs.declared.Table.{Table}
use Rattle.rules.specs.Numbers.{task_room, region_room}
use Rattle.rules.specs.Words.{is_zero}
use Rattle.rules.specs.Regions.{held, occupied, holder_of}
use Rattle.rules.specs.Election.{ready_at}
use Rattle.rules.specs.Urgency.{is_open}
use Rattle.rules.specs.Tables.{states_of, closed_of}
use Rattle.rules.specs.Validity.{zero_past, zero_past_counts, holders_in_range, entries_fit, entries_right, one_holder, holder_ready, holder_elected, mark_in_range, marks_in_range, open_holders_right, await_fits, awaits_right}
use Rattle.rules.specs.Checks.{region_fits, regions_right, entries_everywhere, holder_right, open_holder_fits, open_holders_fit, await_right, awaits_fit}
use Rattle.rules.proofs.Bools.{given, and_left, and_right, both, or_cases, or_first, or_second}
use Rattle.rules.proofs.Counts.{below_at, below_all, within_at, past_at}
use Rattle.rules.proofs.Election.{election_held}
use Rattle.rules.proofs.States.{closed_at, ready_stored}
use Rattle.rules.proofs.Rules.{Rules, Parts}
use Rattle.rules.proofs.ValidTasks.{tasks_gathered, ready_below, length_states_of}

-- a mark is 0 or 1
mark_cases : (mark : ℕ) → mark_in_range mark ≡ true → (is_zero mark || is_open mark) ≡ true
mark_cases mark h = go (is_zero mark) refl
  where
    go : (b : Bool) → is_zero mark ≡ b → (is_zero mark || is_open mark) ≡ true
    go true e = or_first _ _ e
    go false e =
        let some = eqb-false mark 0 e in
        let most = leb-true mark 1 h in
        or_second (is_zero mark) _ (eq-eqb mark 1 (omega (arith, some)))

-- ---- the list's rules on regions, gathered

module _ (t : Table) (r : Rules t) where
  -- what stands past the count of regions: holders, counts, marks
  unheld_past : (i : ℕ) → t.regions ≤ i → i < region_room → is_zero (get_or t.holder i 0) ≡ true
  unfolding zero_past zero_past_counts
  unheld_past i l k = past_at _ _ _ i (given _ r.past_counts).1.1.1.1.1.0 l k

  uncounted_past : (i : ℕ) → t.regions ≤ i → i < region_room → is_zero (get_or t.entries i 0) ≡ true
  unfolding zero_past zero_past_counts
  uncounted_past i l k = past_at _ _ _ i (given _ r.past_counts).1.1.1.1.1.1.0 l k

  unmarked_past : (i : ℕ) → t.regions ≤ i → i < region_room → is_zero (get_or t.opened i 0) ≡ true
  unfolding zero_past zero_past_counts
  unmarked_past i l k = past_at _ _ _ i (given _ r.past_counts).1.1.1.1.1.1.1.1.1.1.0 l k

  -- a closed region below the count is free or has the closed ones' holder
  closed_held : (i : ℕ) → i < t.regions → i < region_room
      → (is_zero (get_or t.holder i 0) || (is_open (get_or t.opened i 0) || eqb (get_or t.holder i 0) (held (closed_of t)))) ≡ true
  unfolding one_holder
  closed_held i l k = go (is_open (get_or t.opened i 0)) refl
    where
      go : (b : Bool) → is_open (get_or t.opened i 0) ≡ b
          → (is_zero (get_or t.holder i 0) || (is_open (get_or t.opened i 0) || eqb (get_or t.holder i 0) (held (closed_of t)))) ≡ true
      go true e = or_second (is_zero (get_or t.holder i 0)) _ (or_first _ _ e)
      go false e =
          let one = rw (closed_at t.opened t.holder i k, e) at (within_at _ _ _ i r.one_holder l k) in
          rw e one

  pub regions_gathered : regions_right t.regions (held (closed_of t)) t.opened t.holder ≡ true
  unfolding regions_right region_fits marks_in_range
  regions_gathered = below_all _ region_room (λ i k. go i k (ltb i t.regions) refl)
    where
      go : (i : ℕ) → i < region_room → (b : Bool) → ltb i t.regions ≡ b
          → region_fits t.regions (held (closed_of t)) i (get_or t.opened i 0) (get_or t.holder i 0) ≡ true
      go i k true e =
          let l = ltb-true i t.regions e in
          rw e (both (mark_cases (get_or t.opened i 0) (within_at _ _ _ i r.marks l k)) (closed_held i l k))
      go i k false e =
          let l = ltb-false i t.regions e in
          both (or_first _ _ (unmarked_past i l k)) (or_first _ _ (unheld_past i l k))

  pub entries_gathered : entries_everywhere t.holder t.entries ≡ true
  unfolding entries_everywhere entries_right
  entries_gathered = below_all _ region_room (λ i k. go i k (ltb i t.regions) refl)
    where
      go : (i : ℕ) → i < region_room → (b : Bool) → ltb i t.regions ≡ b → entries_fit (get_or t.holder i 0) (get_or t.entries i 0) ≡ true
      go i k true e = within_at _ _ _ i r.entries (ltb-true i t.regions e) k
      go i k false e =
          let l = ltb-false i t.regions e in
          rw (unheld_past i l k) (uncounted_past i l k)

  pub holder_gathered : holder_right t.tasks (states_of t) (held (closed_of t)) ≡ true
  unfolding holder_right holder_ready
  holder_gathered = go (is_zero (held (closed_of t))) refl
    where
      go : (b : Bool) → is_zero (held (closed_of t)) ≡ b
          → (is_zero (held (closed_of t)) || (leb (held (closed_of t)) t.tasks && ready_at (states_of t) (holder_of (closed_of t)))) ≡ true
      go true e = rw e refl
      go false e =
          let h : ready_at (states_of t) (holder_of (closed_of t)) ≡ true = simp e at r.holder_ready in
          let stored = ready_stored t.awaits t.state (length_states_of t r.shape) (holder_of (closed_of t)) h in
          let l = ready_below t (tasks_gathered t r) r.shape (holder_of (closed_of t)) stored in
          rw e (both (le-leb (held (closed_of t)) t.tasks (omega arith)) h)

  -- the rules on open regions and on who waits, gathered

  pub open_holders_gathered : open_holders_fit t.tasks t.state t.opened t.holder ≡ true
  unfolding open_holders_fit open_holder_fits open_holders_right holders_in_range
  open_holders_gathered = below_all _ region_room (λ i k. go i k (ltb i t.regions) refl)
    where
      go : (i : ℕ) → i < region_room → (b : Bool) → ltb i t.regions ≡ b
          → open_holder_fits t.tasks t.state (get_or t.opened i 0) (get_or t.holder i 0) ≡ true
      go i k true e =
          let l = ltb-true i t.regions e in
          let h = get_or t.holder i 0 in
          ⊎_elim (λ z. or_first _ _ z)
          (λ w.
          or_second (not (is_open (get_or t.opened i 0))) _
          (⊎_elim (λ z. or_first _ _ z) (λ s. or_second (is_zero h) _ (both (within_at _ _ _ i r.holders l k) s)) (or_cases (is_zero h) _ w)))
          (or_cases (not (is_open (get_or t.opened i 0))) _ (within_at _ _ _ i r.open_holders l k))
      go i k false e =
          or_second (not (is_open (get_or t.opened i 0))) _ (or_first _ _ (unheld_past i (ltb-false i t.regions e) k))

  pub awaits_gathered : awaits_fit t.tasks t.state t.awaits t.opened t.holder ≡ true
  unfolding awaits_fit await_right awaits_right zero_past zero_past_counts
  awaits_gathered = below_all _ task_room (λ i k. go i k (ltb i t.tasks) refl)
    where
      go : (i : ℕ) → i < task_room → (b : Bool) → ltb i t.tasks ≡ b
          → await_right t.tasks i (get_or t.state i 0) (get_or t.awaits i 0) (get_or t.opened (get_or t.awaits i 0 - 1) 0) (get_or t.holder (get_or t.awaits i 0 - 1) 0) ≡ true
      go i k true e = rw e (within_at _ _ _ i r.awaits (ltb-true i t.tasks e) k)
      go i k false e =
          or_first _ _ (past_at _ _ _ i (given _ r.past_counts).1.1.1.1.1.1.1.1.1.0 (ltb-false i t.tasks e) k)

-- ---- what they say of one region

module _ (t : Table) (p : Parts t) where
  pub region_fits_lem : (i : ℕ) → i < region_room
      → region_fits t.regions (held (closed_of t)) i (get_or t.opened i 0) (get_or t.holder i 0) ≡ true
  unfolding regions_right
  region_fits_lem i k = below_at _ region_room i p.regions k

  -- its mark: 0, or 1 below the count
  pub mark_fits : (i : ℕ) → i < region_room → (is_zero (get_or t.opened i 0) || (ltb i t.regions && is_open (get_or t.opened i 0))) ≡ true
  unfolding region_fits
  mark_fits i k = and_left _ _ (region_fits_lem i k)

  pub mark_in_range_lem : (i : ℕ) → i < region_room → mark_in_range (get_or t.opened i 0) ≡ true
  mark_in_range_lem i k =
      let m = get_or t.opened i 0 in
      ⊎_elim (λ z. let e : m ≡ 0 = eqb-true m 0 z in le-leb m 1 (omega arith))
      (λ w. let e : m ≡ 1 = eqb-true m 1 (and_right (ltb i t.regions) _ w) in le-leb m 1 (omega arith))
      (or_cases (is_zero m) _ (mark_fits i k))

  pub unmarked : (i : ℕ) → t.regions ≤ i → i < region_room → is_zero (get_or t.opened i 0) ≡ true
  unmarked i l k =
      ⊎_elim (λ z. z) (λ w. absurd (false≢true (sym (le-ltb i t.regions l) ∙ and_left _ _ w))) (or_cases (is_zero (get_or t.opened i 0)) _ (mark_fits i k))

  -- its holder: free, or below the count and open or of the closed ones' holder
  pub holder_fits : (i : ℕ) → i < region_room
      → (is_zero (get_or t.holder i 0) || (ltb i t.regions && (is_open (get_or t.opened i 0) || eqb (get_or t.holder i 0) (held (closed_of t))))) ≡ true
  unfolding region_fits
  holder_fits i k = and_right (is_zero (get_or t.opened i 0) || (ltb i t.regions && is_open (get_or t.opened i 0))) _ (region_fits_lem i k)

  pub held_fits : leb (held (closed_of t)) t.tasks ≡ true
  unfolding holder_right
  held_fits =
      ⊎_elim (λ z. let e = eqb-true (held (closed_of t)) 0 z in le-leb (held (closed_of t)) t.tasks (omega arith)) (λ w. and_left _ _ w)
      (or_cases (is_zero (held (closed_of t))) _ p.holder)

  -- an open region's holder is a task that is stored as ready
  pub open_holder : (i : ℕ) → i < region_room → is_open (get_or t.opened i 0) ≡ true
      → (is_zero (get_or t.holder i 0) ≡ true) ⊎ ((leb (get_or t.holder i 0) t.tasks && ready_at t.state (get_or t.holder i 0 - 1)) ≡ true)
  unfolding open_holders_fit open_holder_fits
  open_holder i k o = or_cases (is_zero (get_or t.holder i 0)) _ (simp o at (below_at _ region_room i p.open_holders k))

  pub entry_fits : (i : ℕ) → i < region_room → leb (get_or t.holder i 0) t.tasks ≡ true
  entry_fits i k = ⊎_elim free held_one (or_cases (is_zero h) _ (holder_fits i k))
    where
      h : ℕ
      h = get_or t.holder i 0

      free : is_zero h ≡ true → leb h t.tasks ≡ true
      free z = let e : h ≡ 0 = eqb-true h 0 z in le-leb h t.tasks (omega arith)

      held_one : (ltb i t.regions && (is_open (get_or t.opened i 0) || eqb h (held (closed_of t)))) ≡ true → leb h t.tasks ≡ true
      held_one w =
          ⊎_elim (λ o. ⊎_elim free (λ s. and_left _ _ s) (open_holder i k o)) (λ e. rw (eqb-true h (held (closed_of t)) e) held_fits)
          (or_cases (is_open (get_or t.opened i 0)) _ (and_right (ltb i t.regions) _ w))

  pub same_holder : (i : ℕ) → i < region_room → (is_zero (get_or (closed_of t) i 0) || eqb (get_or (closed_of t) i 0) (held (closed_of t))) ≡ true
  same_holder i k = rw (closed_at t.opened t.holder i k) (go (is_open (get_or t.opened i 0)) refl)
    where
      h : ℕ
      h = get_or t.holder i 0

      go : (b : Bool) → is_open (get_or t.opened i 0) ≡ b → (is_zero (cond b 0 h) || eqb (cond b 0 h) (held (closed_of t))) ≡ true
      go true e = refl
      go false e =
          ⊎_elim (λ z. or_first _ _ z)
          (λ w.
          let same : (is_open (get_or t.opened i 0) || eqb h (held (closed_of t))) ≡ true = and_right (ltb i t.regions) _ w in
          or_second (is_zero h) _ (rw e at same))
          (or_cases (is_zero h) _ (holder_fits i k))

  pub free_past : (i : ℕ) → t.regions ≤ i → i < region_room → is_zero (get_or t.holder i 0) ≡ true
  free_past i l k =
      let h = get_or t.holder i 0 in
      ⊎_elim (λ z. z) (λ w. absurd (false≢true (sym (le-ltb i t.regions l) ∙ and_left _ _ w))) (or_cases (is_zero h) _ (holder_fits i k))

  pub entries_fit_lem : (i : ℕ) → i < region_room → entries_fit (get_or t.holder i 0) (get_or t.entries i 0) ≡ true
  unfolding entries_everywhere
  entries_fit_lem i k = below_at _ region_room i p.entries k

  -- a free region's count is 0
  pub uncounted : (i : ℕ) → t.regions ≤ i → i < region_room → is_zero (get_or t.entries i 0) ≡ true
  uncounted i l k = simp (free_past i l k) at (entries_fit_lem i k)

  pub holder_is_ready : holder_ready (states_of t) (closed_of t) ≡ true
  unfolding holder_ready holder_right
  holder_is_ready =
      ⊎_elim (λ z. rw z refl) (λ w. or_second (not (occupied (closed_of t))) _ (and_right (leb (held (closed_of t)) t.tasks) _ w))
      (or_cases (is_zero (held (closed_of t))) _ p.holder)

  pub holder_is_elected : holder_elected t.elected (closed_of t) ≡ true
  unfolding holder_elected
  holder_is_elected = go (occupied (closed_of t)) refl
    where
      go : (b : Bool) → occupied (closed_of t) ≡ b → (not (occupied (closed_of t)) || eqb t.elected (holder_of (closed_of t))) ≡ true
      go true e = rw e (eq-eqb _ _ (p.elected ∙ election_held _ _ _ e))
      go false e = rw e refl

  pub open_holder_ready : (i : ℕ) → i < region_room
      → (not (is_open (get_or t.opened i 0)) || (is_zero (get_or t.holder i 0) || ready_at t.state (get_or t.holder i 0 - 1))) ≡ true
  open_holder_ready i k = go (is_open (get_or t.opened i 0)) refl
    where
      h : ℕ
      h = get_or t.holder i 0

      go : (b : Bool) → is_open (get_or t.opened i 0) ≡ b → (not (is_open (get_or t.opened i 0)) || (is_zero h || ready_at t.state (h - 1))) ≡ true
      go true e = rw e (⊎_elim (λ z. or_first _ _ z) (λ s. or_second (is_zero h) _ (and_right (leb h t.tasks) _ s)) (open_holder i k e))
      go false e = rw e refl

  -- ---- who waits

  -- the region that a task waits for, by its number
  abbrev awaited : ℕ → ℕ
  awaited i = get_or t.awaits i 0 - 1

  pub await_right_lem : (i : ℕ) → i < task_room
      → (is_zero (get_or t.awaits i 0) || (ltb i t.tasks && await_fits i (get_or t.state i 0) (get_or t.opened (awaited i) 0) (get_or t.holder (awaited i) 0))) ≡ true
  unfolding awaits_fit await_right
  await_right_lem i k = below_at _ task_room i p.awaits k

  pub await_fits_lem : (i : ℕ) → i < task_room
      → (is_zero (get_or t.awaits i 0) || await_fits i (get_or t.state i 0) (get_or t.opened (awaited i) 0) (get_or t.holder (awaited i) 0)) ≡ true
  await_fits_lem i k =
      ⊎_elim (λ z. or_first _ _ z) (λ w. or_second (is_zero (get_or t.awaits i 0)) _ (and_right (ltb i t.tasks) _ w))
      (or_cases (is_zero (get_or t.awaits i 0)) _ (await_right_lem i k))

  pub awaits_past : (i : ℕ) → t.tasks ≤ i → i < task_room → is_zero (get_or t.awaits i 0) ≡ true
  awaits_past i l k =
      ⊎_elim (λ z. z) (λ w. absurd (false≢true (sym (le-ltb i t.tasks l) ∙ and_left _ _ w))) (or_cases (is_zero (get_or t.awaits i 0)) _ (await_right_lem i k))
