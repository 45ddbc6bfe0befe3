-- A fresh table from a configuration in range is valid; the table of zeros is not.
use Prim.Native.Nat.{ℕ, zero, suc, ◌+◌, ◌<◌, ◌≤◌}
use mathlib.Core.Path.{◌≡◌, refl, sym, ◌∙◌}
use mathlib.Core.Logic.{◌⊎◌, inl, inr, ⊎_elim}
use mathlib.Core.Bool.{Bool, true, false, cond, not, ◌&&◌, ◌||◌, false≢true}
use mathlib.Core.List.{List, [], ◌∷◌}
use native.Mathlib.Omega.{arith}
use lib.Dec.{eqb, ltb}
use lib.ListN.{get_or, length, take, replicate, length-take, get_or-replicate}
use borrow.Author.Tests.{eq-eqb, ltb-true, ltb-false, leb-true, le-leb}
use Rattle.rules.specs.Numbers.{task_room, priority_end, region_room, queue_room, places, store_size, timer_room}
use Rattle.rules.specs.Words.{is_zero, all, every, below, padded}
use Rattle.rules.specs.Tasks.{stopped, ready}
use Rattle.rules.specs.Regions.{held}
use Rattle.rules.specs.Queues.{first_place, behind}
use Rattle.rules.specs.Timers.{idle}
use Rattle.rules.specs.Election.{best_ready, ready_at, priority_at, election, Wins}
use Rattle.rules.specs.Urgency.{is_open, closed_holders, nobody_awaits, states_with, urgencies}
use Rattle.rules.specs.Circles.{ends, no_circle}
use Rattle.rules.specs.Validity.{shaped, counts_in_range, bound_in_range, mark_in_range, criterion_in_range, criteria_in_range, state_right, timer_right, valid}
use Rattle.rules.specs.Fresh.{configuration_in_range, fresh_table, zero_table}
use Rattle.rules.proofs.Bools.{◌&◌, given, shown, both, or_first, or_second}
use Rattle.rules.proofs.Counts.{below_all}
use Rattle.rules.proofs.Lists.{every_in, every_take, every_drop, every_replicate, length_padded, padded_at, padded_past}
use Rattle.rules.proofs.Election.{wins_alone, best_wins, election_free}
use Rattle.rules.specs.Checks.{row_fits, row_zero, tasks_right, region_fits, regions_right, entries_everywhere, holder_right, open_holder_fits, open_holders_fit, awaits_fit, bound_fits, queue_right, queues_right}
use Rattle.rules.proofs.Rules.{Parts, counts_fit}
use Rattle.rules.proofs.ValidTasks.{row_shown}
use Rattle.rules.proofs.Validity.{valid_parts}
use Rattle.theorems.proofs.ArmedTimers.{idle_right, timers_shown}
use Rattle.theorems.specs.Kept.{FreshValid, ZerosInvalid}
use Rattle.rules.proofs.Ways.{onward_none, ends_here}
use Rattle.rules.proofs.States.{closed_at, length_closed}
use Rattle.rules.proofs.Urgency.{states_quiet, urgencies_quiet}
use Rattle.theorems.proofs.HeldRegions.{held_at}
use Rattle.theorems.proofs.Lines.{awaits_shown}

pub zeros_invalid : ZerosInvalid
unfolding valid zero_table all shaped counts_in_range
zeros_invalid = refl

-- ---- a column

states : List ℕ
states = padded task_room stopped (ready ∷ [])

state_past : (i : ℕ) → 0 < i → get_or states i 0 ≡ 0
unfolding states
state_past i h = padded_past task_room 0 (1 ∷ []) i h

-- the first n of a list that is long enough, filled up with 0
module _ (room n : ℕ) (xs : List ℕ) (fits : n ≤ room) (long : n ≤ length xs) where
  took : length (take n xs) ≡ n
  took = simp length-take (omega arith)

  column_length : length (padded room 0 (take n xs)) ≡ room
  column_length = length_padded room 0 (take n xs) (rw took fits)

  column_past : (i : ℕ) → n ≤ i → get_or (padded room 0 (take n xs)) i 0 ≡ 0
  column_past i h = padded_past room 0 (take n xs) i (rw took h)

  column_in : (p : ℕ → Bool) → every p (take n xs) ≡ true → (i : ℕ) → i < n → p (get_or (padded room 0 (take n xs)) i 0) ≡ true
  column_in p h i l = let k : i < length (take n xs) = rw took l in rw (padded_at room 0 (take n xs) i k) (every_in p (take n xs) i 0 h k)

state_one : (i : ℕ) → (get_or states i 0 ≡ 0) ⊎ (get_or states i 0 ≡ 1)
unfolding states padded
state_one zero = inr refl
state_one (suc i) = inl (state_past (suc i) (omega arith))

-- a task of the fresh table
row_fits_lem : (tasks i p s a l o : ℕ) → (i < tasks → ltb p priority_end ≡ true) → (tasks ≤ i → (p ≡ 0) × (s ≡ 0)) → (s ≡ 0) ⊎ (s ≡ 1) → a ≡ 0 → l ≡ 0
    → o ≡ 0 → row_fits tasks i p s a l o ≡ true
unfolding row_fits row_zero
row_fits_lem tasks i p s a l o fits past one x y z = rw (x, y, z) (go (ltb i tasks) refl)
  where
    right : state_right s 0 0 0 ≡ true
    right = ⊎_elim (λ h. rw h refl) (λ h. rw h refl) one

    go : (b : Bool) → ltb i tasks ≡ b → row_fits tasks i p s 0 0 0 ≡ true
    go true e =
        rw e
        (row_shown p s 0 0 0
        (record {
          priority_fits = fits (ltb-true i tasks e);
          arrived_fits = refl;
          list_fits = refl;
          operator_fits = refl;
          rest = or_second (eqb s 2) true refl;
          state_right = right;
        }))
    go false e = let z = past (ltb-false i tasks e) in rw (e, z.0, z.1) (shown _ (refl, (refl, (refl, (refl, (refl, tt))))))

-- a mark is 0 or 1
mark_cases : (mark : ℕ) → mark_in_range mark ≡ true → (is_zero mark || is_open mark) ≡ true
mark_cases zero h = refl
mark_cases (suc zero) h = refl
mark_cases (suc (suc more)) h = let most = leb-true (suc (suc more)) 1 h in absurd (omega arith)

-- ---- the table

-- the configuration, test by test
record Range (tasks regions queues : ℕ) (priorities bounds marks : List ℕ) : Type 0 where
  counts : counts_in_range tasks regions queues ≡ true
  some : 0 < tasks
  tasks_room : tasks ≤ task_room
  queues_room : queues ≤ queue_room
  priorities_long : tasks ≤ length priorities
  bounds_long : queues ≤ length bounds
  priorities_fit : every (λ p. ltb p priority_end) (take tasks priorities) ≡ true
  bounds_fit : every bound_in_range (take queues bounds) ≡ true
  regions_room : regions ≤ region_room
  marks_long : regions ≤ length marks
  marks_fit : every mark_in_range (take regions marks) ≡ true

in_range_lem : (tasks regions queues : ℕ) (priorities bounds marks : List ℕ) → configuration_in_range tasks regions queues priorities bounds marks ≡ true
    → Range tasks regions queues priorities bounds marks
unfolding configuration_in_range counts_in_range
in_range_lem tasks regions queues priorities bounds marks h =
    let (a, (b, (c, (m, (d, (e, (f, rest))))))) = given _ h in
    let fit = counts_fit tasks regions queues a in
    record {
      counts = a;
      some = ltb-true 0 tasks (given _ a).0;
      tasks_room = fit.0;
      queues_room = fit.2;
      priorities_long = leb-true _ _ b;
      bounds_long = leb-true _ _ c;
      priorities_fit = d;
      bounds_fit = e;
      regions_room = fit.1;
      marks_long = leb-true _ _ m;
      marks_fit = f;
    }

module _ (tasks regions queues : ℕ) (priorities bounds marks : List ℕ) (r : Range tasks regions queues priorities bounds marks) where
  priority : List ℕ
  priority = padded task_room 0 (take tasks priorities)

  bound : List ℕ
  bound = padded queue_room 0 (take queues bounds)

  priority_past : (i : ℕ) → tasks ≤ i → priority_at priority i ≡ 0
  unfolding priority
  priority_past = column_past task_room tasks priorities r.tasks_room r.priorities_long

  priority_in : (i : ℕ) → i < tasks → ltb (priority_at priority i) priority_end ≡ true
  unfolding priority
  priority_in = column_in task_room tasks priorities r.tasks_room r.priorities_long (λ p. ltb p priority_end) r.priorities_fit

  small : (i : ℕ) → i < task_room → priority_at priority i < priority_end
  small i k = go (ltb i tasks) refl
    where
      go : (b : Bool) → ltb i tasks ≡ b → priority_at priority i < priority_end
      go true e = ltb-true _ _ (priority_in i (ltb-true i tasks e))
      go false e = let z = priority_past i (ltb-false i tasks e) in omega arith

  zeros : List ℕ
  zeros = replicate task_room 0

  tasks_fit : tasks_right tasks priority states zeros zeros zeros ≡ true
  unfolding tasks_right zeros
  tasks_fit =
      below_all _ task_room
      (λ i k.
      let z : get_or (replicate task_room 0) i 0 ≡ 0 = get_or-replicate task_room i 0 0 k in
      row_fits_lem tasks i (priority_at priority i) (get_or states i 0) _ _ _ (priority_in i) (λ h. (priority_past i h, state_past i (omega (arith, r.some)))) (state_one i) z z z)

  store : List ℕ
  store = replicate store_size 0

  behind_free : (q n : ℕ) → every is_zero (behind q n store) ≡ true
  unfolding behind store
  behind_free q n =
      every_drop is_zero (first_place q + n) _ (every_take is_zero (first_place q + places) store (every_replicate is_zero store_size 0 refl))

  bound_right : (q n : ℕ) → n ≡ 0 → (b : Bool) → ltb q queues ≡ b → bound_fits queues q (get_or bound q 0) n ≡ true
  unfolding bound_fits bound
  bound_right q n z true e =
      let l = ltb-true q queues e in
      let fits = column_in queue_room queues bounds r.queues_room r.bounds_long bound_in_range r.bounds_fit q l in
      rw (e, z) (both {a = bound_in_range (get_or bound q 0)} fits (le-leb 0 (get_or bound q 0) (omega arith)))
  bound_right q n z false e =
      rw (e, z, column_past queue_room queues bounds r.queues_room r.bounds_long q (ltb-false q queues e)) refl

  queues_fit : queues_right queues bound (replicate queue_room 0) store store ≡ true
  unfolding queues_right queue_right
  queues_fit =
      below_all _ queue_room
      (λ q k.
      let n = get_or (replicate queue_room 0) q 0 in
      both {a = bound_fits queues q (get_or bound q 0) n} (bound_right q n (get_or-replicate queue_room q 0 0 k) (ltb q queues) refl)
      (both {a = every is_zero (behind q n store)} (behind_free q n) (behind_free q n)))

  opened : List ℕ
  opened = padded region_room 0 (take regions marks)

  mark_past : (i : ℕ) → regions ≤ i → get_or opened i 0 ≡ 0
  unfolding opened
  mark_past = column_past region_room regions marks r.regions_room r.marks_long

  mark_in : (i : ℕ) → i < regions → mark_in_range (get_or opened i 0) ≡ true
  unfolding opened
  mark_in = column_in region_room regions marks r.regions_room r.marks_long mark_in_range r.marks_fit

  free : List ℕ
  free = replicate region_room 0

  free_at : (i : ℕ) → i < region_room → get_or free i 0 ≡ 0
  unfolding free
  free_at i k = get_or-replicate region_room i 0 0 k

  -- every region is free, so that none counts as a closed one's, and nobody waits
  closed_free : held (closed_holders opened free) ≡ 0
  closed_free = ⊎_elim (λ z. z) at (held_at (closed_holders opened free))
    where
      none : (i : ℕ) → i < region_room → (b : Bool) → cond b 0 (get_or free i 0) ≡ 0
      none i k true = refl
      none i k false = free_at i k

      at : (i : ℕ) × (i < length (closed_holders opened free)) × (get_or (closed_holders opened free) i 0 ≡ held (closed_holders opened free))
          → held (closed_holders opened free) ≡ 0
      at q =
          let k : q.0 < region_room = omega (arith, q.1, length_closed opened free) in
          sym q.2 ∙ closed_at opened free q.0 k ∙ none q.0 k (is_open (get_or opened q.0 0))

  regions_fit : (v : ℕ) → regions_right regions v opened free ≡ true
  unfolding regions_right region_fits
  regions_fit v = below_all _ region_room (λ i k. both (marked i (ltb i regions) refl) (or_first _ _ (eq-eqb _ 0 (free_at i k))))
    where
      marked : (i : ℕ) (b : Bool) → ltb i regions ≡ b → (is_zero (get_or opened i 0) || (ltb i regions && is_open (get_or opened i 0))) ≡ true
      marked i true e = rw e (mark_cases (get_or opened i 0) (mark_in i (ltb-true i regions e)))
      marked i false e = or_first _ _ (eq-eqb _ 0 (mark_past i (ltb-false i regions e)))

  open_fit : open_holders_fit tasks states opened free ≡ true
  unfolding open_holders_fit open_holder_fits
  open_fit = below_all _ region_room (λ i k. or_second (not (is_open (get_or opened i 0))) _ (or_first _ _ (eq-eqb _ 0 (free_at i k))))

  awaits_none : (i : ℕ) → i < task_room → get_or zeros i 0 ≡ 0
  unfolding zeros
  awaits_none i k = get_or-replicate task_room i 0 0 k

  awaits_fit_lem : awaits_fit tasks states zeros opened free ≡ true
  awaits_fit_lem = awaits_shown tasks states zeros opened free (λ j q k e. let z = awaits_none j k in absurd (omega arith))

  circle_free : no_circle zeros free ≡ true
  unfolding no_circle
  circle_free = below_all (ends zeros free task_room) task_room (λ i k. ends_here zeros free task_room i (onward_none zeros free i (awaits_none i k)))

  quiet : nobody_awaits zeros ≡ true
  unfolding nobody_awaits
  quiet = below_all _ task_room (λ i k. eq-eqb _ 0 (awaits_none i k))

  states_stored : states_with zeros states ≡ states
  unfolding states padded
  states_stored = states_quiet zeros states quiet refl

  urgencies_own : urgencies priority zeros opened free ≡ priority
  unfolding priority
  urgencies_own =
      urgencies_quiet priority zeros opened free quiet (column_length task_room tasks priorities r.tasks_room r.priorities_long)
      (λ i k. let s = small i k in omega arith)

  elected_first : best_ready states priority ≡ 0
  unfolding states padded
  elected_first = wins_alone states priority _ 0 (best_wins states priority small 0 (omega arith, refl)) first
    where
      first : Wins states priority 0
      first = record { ready = (omega arith, refl); first = λ i h. only i h.1 }
        where
          only : (i : ℕ) → ready_at states i ≡ true
              → (priority_at priority 0 < priority_at priority i) ⊎ ((priority_at priority 0 ≡ priority_at priority i) × (0 ≤ i))
          only zero h = inr (refl, omega arith)
          only (suc i) h = absurd (false≢true (rw (state_past (suc i) (omega arith)) at h))

  elects : election (states_with zeros states) (urgencies priority zeros opened free) (closed_holders opened free) ≡ 0
  elects = rw (states_stored, urgencies_own) (election_free states priority (closed_holders opened free) (rw closed_free refl) ∙ elected_first)

  fresh_parts : Parts (fresh_table tasks regions queues priorities bounds marks)
  unfolding fresh_table shaped entries_everywhere below holder_right criteria_in_range priority bound states zeros store opened free padded
  fresh_parts =
      record {
        shape =
            shown _
            (eq-eqb _ _ (column_length task_room tasks priorities r.tasks_room r.priorities_long)
            & refl & refl & refl & refl & refl & refl
            & eq-eqb _ _ (column_length queue_room queues bounds r.queues_room r.bounds_long)
            & refl & refl & refl & refl & refl
            & eq-eqb _ _ (column_length region_room regions marks r.regions_room r.marks_long)
            & tt);
        counts = r.counts;
        tasks = tasks_fit;
        regions = regions_fit (held (closed_holders opened free));
        entries = refl;
        holder = rw closed_free refl;
        open_holders = open_fit;
        awaits = awaits_fit_lem;
        no_circle = circle_free;
        queues = queues_fit;
        criteria = every_replicate criterion_in_range store_size 0 refl;
        elected = sym elects;
        timers =
            timers_shown tasks states 0 (replicate timer_room idle) (omega arith)
            (every_replicate (timer_right tasks states 0) timer_room idle (idle_right tasks states 0));
      }

pub fresh_valid : FreshValid
fresh_valid tasks regions queues priorities bounds marks h =
    valid_parts _ (fresh_parts tasks regions queues priorities bounds marks (in_range_lem tasks regions queues priorities bounds marks h))
