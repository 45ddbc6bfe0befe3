-- A task's row stays right: what each operation makes of one task, and the table with that task changed.
use Prim.Native.Nat.{ℕ, zero, suc, ◌-◌, ◌<◌}
use mathlib.Core.Path.{◌≡◌, refl, sym, ap, ◌∙◌}
use mathlib.Core.Logic.{◌≢◌, ◌⊎◌, inl, inr, ⊎_elim}
use mathlib.Core.Bool.{Bool, true, false, not, ◌&&◌, false≢true, true≢false}
use mathlib.Core.List.{List, map}
use native.Mathlib.Omega.{arith}
use lib.Dec.{eqb, ltb, leb}
use lib.ListN.{get_or, set, length, length-set}
use lib.Seq.{get_or-set_same, get_or-set_other}
use borrow.Author.Tests.{eqb-true, eqb-false, eq-eqb, ne_eqb, ltb-true, lt-ltb}
use Rattle.rules.specs.declared.Task.{Task}
use Rattle.rules.specs.declared.Timer.{Timer}
use Rattle.rules.specs.declared.Table.{Table}
use Rattle.rules.specs.Numbers.{task_room, region_room, event_end, list_end}
use Rattle.rules.specs.Words.{is_zero}
use Rattle.rules.specs.Events.{met, arrive, cleared}
use Rattle.rules.specs.Tasks.{is_stopped, is_ready, as_started, as_stopped, woken, signalled, waited, as_cleared}
use Rattle.rules.specs.Regions.{held}
use Rattle.rules.specs.Election.{ready_at}
use Rattle.rules.specs.Timers.{disarmed}
use Rattle.rules.specs.Urgency.{is_open, holds_open, states_with}
use Rattle.rules.specs.Circles.{no_circle}
use Rattle.rules.specs.Tables.{states_of, closed_of, with_task, with_timers, settled}
use Rattle.rules.specs.Validity.{shaped, timer_right, timers_right}
use Rattle.rules.proofs.Bools.{and_left, and_right, both, not_intro}
use Rattle.rules.proofs.Counts.{below_at, below_all}
use Rattle.rules.proofs.Events.{arrive_lt, cleared_le}
use Rattle.theorems.proofs.Columns.{columns_long, shaped_with}
use Rattle.theorems.proofs.ArmedTimers.{every_map, every_kept, awake_right, stopped_right, counter_fits, each_right, timers_shown}
use Rattle.rules.specs.Checks.{row_fits, tasks_right, holder_right, open_holder_fits, open_holders_fit, awaits_fit}
use Rattle.rules.proofs.States.{ready_stored, ready_free, ready_shown}
use Rattle.rules.proofs.Rules.{Parts, counts_fit}
use Rattle.rules.proofs.ValidTasks.{Row, row_shown, length_states_of}
use Rattle.theorems.proofs.HeldRegions.{holds_open_lem}
use Rattle.theorems.proofs.Lines.{Lined, lined, awaits_shown, with_line}

-- a task with this priority is right
abbrev pub Fits : ℕ → Task → Type 0
Fits priority r = Row priority r.state r.arrived r.list r.operator

-- ---- one task

module _ {priority : ℕ} (r : Task) (f : Fits priority r) where
  pub started_fits : Fits priority (as_started r)
  started_fits =
      record { priority_fits = f.priority_fits; arrived_fits = refl; list_fits = refl; operator_fits = refl; rest = refl; state_right = refl }

  pub stopped_fits : Fits priority (as_stopped r)
  stopped_fits =
      record { priority_fits = f.priority_fits; arrived_fits = refl; list_fits = refl; operator_fits = refl; rest = refl; state_right = refl }

  pub waited_fits : (list operator : ℕ) → is_zero list ≡ false → ltb list list_end ≡ true → leb operator 1 ≡ true
      → Fits priority (waited list operator r)
  unfolding waited
  waited_fits list operator some small right = go (met operator list r.arrived) refl
    where
      go : (b : Bool) → met operator list r.arrived ≡ b → Fits priority (waited list operator r)
      go true e = rw e f
      go false e =
          rw e
          (record {
            priority_fits = f.priority_fits;
            arrived_fits = f.arrived_fits;
            list_fits = small;
            operator_fits = right;
            rest = refl;
            state_right = both (not_intro _ some) (not_intro _ e);
          })

  -- fewer events, of a ready task
  pub cleared_fits : (list : ℕ) → is_ready r ≡ true → Fits priority (as_cleared list r)
  cleared_fits list h =
      let one = eqb-true r.state 1 h in
      record {
        priority_fits = f.priority_fits;
        arrived_fits = lt-ltb (cleared list r.arrived) list_end (omega (arith, cleared_le list r.arrived, ltb-true r.arrived list_end f.arrived_fits));
        list_fits = f.list_fits;
        operator_fits = f.operator_fits;
        rest = f.rest;
        state_right = rw one refl;
      }

-- who waits is not stopped
pub waited_awake : (list operator : ℕ) (r : Task) → is_stopped r ≡ false → is_stopped (waited list operator r) ≡ false
unfolding waited
waited_awake list operator r n = go (met operator list r.arrived) refl
  where
    go : (b : Bool) → met operator list r.arrived ≡ b → is_stopped (waited list operator r) ≡ false
    go true e = rw e n
    go false e = rw e refl

abbrev task : ℕ → ℕ → ℕ → ℕ → Task
task s a l o = record { state = s; arrived = a; list = l; operator = o }

pub signalled_fits : (e : ℕ) → e < event_end → (priority : ℕ) (r : Task) → is_stopped r ≡ false → Fits priority r → Fits priority (signalled e r)
unfolding signalled woken
signalled_fits e k priority r = go r.state r.arrived r.list r.operator
  where
    more : (a : ℕ) → ltb a list_end ≡ true → ltb (arrive e a) list_end ≡ true
    more a h = lt-ltb _ _ (arrive_lt event_end e a k (ltb-true a list_end h))

    go : (s a l o : ℕ) → is_stopped (task s a l o) ≡ false → Fits priority (task s a l o) → Fits priority (signalled e (task s a l o))
    go zero a l o n f = absurd (true≢false n)
    go (suc zero) a l o n f =
        record {
          priority_fits = f.priority_fits;
          arrived_fits = more a f.arrived_fits;
          list_fits = f.list_fits;
          operator_fits = f.operator_fits;
          rest = f.rest;
          state_right = refl;
        }
    go (suc (suc zero)) a l o n f = last (met o l (arrive e a)) refl
      where
        last : (b : Bool) → met o l (arrive e a) ≡ b → Fits priority (signalled e (task 2 a l o))
        last true m =
            rw m
            (record {
              priority_fits = f.priority_fits;
              arrived_fits = more a f.arrived_fits;
              list_fits = refl;
              operator_fits = refl;
              rest = refl;
              state_right = refl;
            })
        last false m =
            rw m
            (record {
              priority_fits = f.priority_fits;
              arrived_fits = more a f.arrived_fits;
              list_fits = f.list_fits;
              operator_fits = f.operator_fits;
              rest = refl;
              state_right = both {a = not (is_zero l)} (and_left _ _ f.state_right) (not_intro _ m);
            })
    go (suc (suc (suc s))) a l o n f = absurd (false≢true f.state_right)

-- ---- the table with one task changed

pub below_room : (t : Table) → Parts t → (i : ℕ) → i < t.tasks → i < task_room
below_room t p i l = omega (arith, (counts_fit _ _ _ p.counts).0)

-- every task waits as it did, or no longer
abbrev pub Shorter : List ℕ → List ℕ → Type 0
Shorter before line = (j : ℕ) → (get_or line j 0 ≡ 0) ⊎ (get_or line j 0 ≡ get_or before j 0)

-- a task that holds a closed region, or an open one, or waits for one: it has to be stored as ready
abbrev pub Used : Table → List ℕ → ℕ → Type 0
Used t line i = (held (closed_of t) ≡ suc i) ⊎ ((holds_open t.opened t.holder i ≡ true) ⊎ (get_or line i 0 ≢ 0))

module _ (t : Table) (p : Parts t) (i : ℕ) (r : Task) (l : i < t.tasks) where
  room : i < task_room
  room = below_room t p i l

  tasks_kept : Fits (get_or t.priority i 0) r
      → tasks_right t.tasks t.priority (set t.state i r.state) (set t.arrived i r.arrived) (set t.list i r.list) (set t.operator i r.operator) ≡ true
  unfolding tasks_right row_fits
  tasks_kept f = below_all _ task_room (λ j k. go j k (eqb j i) refl)
    where
      go : (j : ℕ) → j < task_room → (b : Bool) → eqb j i ≡ b
          → row_fits t.tasks j (get_or t.priority j 0) (get_or (set t.state i r.state) j 0) (get_or (set t.arrived i r.arrived) j 0)
          (get_or (set t.list i r.list) j 0)
          (get_or (set t.operator i r.operator) j 0)
          ≡ true
      go j k true e =
          let long = columns_long t p.shape in
          let h = room in
          rw (
            eqb-true j i e,
            lt-ltb i t.tasks l,
            get_or-set_same t.state i r.state 0 (rw long.state h),
            get_or-set_same t.arrived i r.arrived 0 (rw long.arrived h),
            get_or-set_same t.list i r.list 0 (rw long.list h),
            get_or-set_same t.operator i r.operator 0 (rw long.operator h),
          )
          (row_shown _ _ _ _ _ f)
      go j k false e =
          let n : j ≢ i = eqb-false j i e in
          rw (
            get_or-set_other t.state i j r.state 0 n,
            get_or-set_other t.arrived i j r.arrived 0 n,
            get_or-set_other t.list i j r.list 0 n,
            get_or-set_other t.operator i j r.operator 0 n,
          )
          (below_at _ task_room j p.tasks k)

  -- a task that is not stopped now may own timers as before
  pub timers_awake : is_stopped r ≡ false → timers_right t.tasks (set t.state i r.state) t.ticks t.timers ≡ true
  timers_awake n =
      timers_shown t.tasks _ t.ticks t.timers (counter_fits _ _ _ _ p.timers)
      (every_kept (timer_right t.tasks t.state t.ticks) _
      (λ q h. awake_right t.tasks t.state t.ticks q h i r.state (rw (columns_long t p.shape).state room) n)
      t.timers (each_right _ _ _ _ p.timers))

  -- one that is stopped owns none
  pub timers_stopped : timers_right t.tasks (set t.state i r.state) t.ticks (map (disarmed i) t.timers) ≡ true
  timers_stopped =
      timers_shown t.tasks _ t.ticks (map (disarmed i) t.timers) (counter_fits _ _ _ _ p.timers)
      (every_map (timer_right t.tasks t.state t.ticks) _ (disarmed i) (λ q h. stopped_right t.tasks t.state t.ticks q h i r.state) t.timers (each_right _ _ _ _ p.timers))

  -- ---- the table with its timers, and with the task in its line as before or out of it

  module _ (line : List ℕ) (shorter : Shorter t.awaits line) (stays : Used t line i → ready_at t.state i ≡ true → is_ready r ≡ true) where
    state_long : length (set t.state i r.state) ≡ task_room
    state_long = length-set t.state i r.state ∙ length_states_of t p.shape

    -- a task that was stored as ready still is, if it is another, or has to be
    ready_then : (j : ℕ) → (j ≡ i → Used t line i) → ready_at t.state j ≡ true → ready_at (set t.state i r.state) j ≡ true
    ready_then j used was = go (eqb j i) refl
      where
        go : (b : Bool) → eqb j i ≡ b → ready_at (set t.state i r.state) j ≡ true
        go true e =
            let same = eqb-true j i e in
            rw (same, get_or-set_same t.state i r.state 0 (rw (columns_long t p.shape).state room)) (stays (used same) (rw same at was))
        go false e = rw (get_or-set_other t.state i j r.state 0 (eqb-false j i e)) was

    holder_kept : holder_right t.tasks (states_with line (set t.state i r.state)) (held (closed_of t)) ≡ true
    unfolding holder_right
    holder_kept = go (held (closed_of t)) refl p.holder
      where
        go : (v : ℕ) → held (closed_of t) ≡ v → holder_right t.tasks (states_of t) v ≡ true
            → holder_right t.tasks (states_with line (set t.state i r.state)) v ≡ true
        go zero e was = refl
        go (suc k) e was =
            let less : suc k - 1 ≡ k = omega arith in
            let some : is_zero (suc k) ≡ false = ne_eqb (suc k) 0 (λ z. omega arith) in
            let held_then : (leb (suc k) t.tasks && ready_at (states_of t) k) ≡ true = rw (some, less) at was in
            let shown = and_right (leb (suc k) t.tasks) _ held_then in
            let free = ready_free t.awaits t.state (length_states_of t p.shape) k shown in
            let stored = ready_stored t.awaits t.state (length_states_of t p.shape) k shown in
            rw (some, less)
            (both {a = leb (suc k) t.tasks} (and_left _ _ held_then)
            (ready_shown line (set t.state i r.state) state_long k (eq-eqb _ 0 (⊎_elim (λ z. z) (λ same. same ∙ free) (shorter k)))
            (ready_then k (λ same. inl (e ∙ ap suc same)) stored)))

    open_holders_kept : open_holders_fit t.tasks (set t.state i r.state) t.opened t.holder ≡ true
    unfolding open_holders_fit open_holder_fits
    open_holders_kept =
        below_all _ region_room (λ q k. go q k (is_open (get_or t.opened q 0)) refl (get_or t.holder q 0) refl (below_at _ region_room q p.open_holders k))
      where
        go : (q : ℕ) → q < region_room → (b : Bool) → is_open (get_or t.opened q 0) ≡ b → (h : ℕ) → get_or t.holder q 0 ≡ h
            → open_holder_fits t.tasks t.state (get_or t.opened q 0) h ≡ true
            → open_holder_fits t.tasks (set t.state i r.state) (get_or t.opened q 0) h ≡ true
        go q k false e h f was = rw e refl
        go q k true e zero f was = rw e refl
        go q k true e (suc j) f was =
            let less : suc j - 1 ≡ j = omega arith in
            let some : is_zero (suc j) ≡ false = ne_eqb (suc j) 0 (λ z. omega arith) in
            let held_then : (leb (suc j) t.tasks && ready_at t.state j) ≡ true = rw (e, some, less) at was in
            rw (e, some, less)
            (both {a = leb (suc j) t.tasks} (and_left _ _ held_then)
            (ready_then j
            (λ same. inr (inl (holds_open_lem t.opened t.holder i q k (both {a = is_open (get_or t.opened q 0)} e (eq-eqb _ (suc i) (f ∙ ap suc same))))))
            (and_right (leb (suc j) t.tasks) _ held_then)))

    awaits_kept : awaits_fit t.tasks (set t.state i r.state) line t.opened t.holder ≡ true
    awaits_kept =
        awaits_shown t.tasks (set t.state i r.state) line t.opened t.holder
        (λ j q k e. ⊎_elim (λ z. absurd (omega arith)) (λ same. go j q e (lined t p j q k (sym same ∙ e))) (shorter j))
      where
        go : (j q : ℕ) → get_or line j 0 ≡ suc q → Lined t.tasks j (get_or t.state j 0) (get_or t.opened q 0) (get_or t.holder q 0)
            → Lined t.tasks j (get_or (set t.state i r.state) j 0) (get_or t.opened q 0) (get_or t.holder q 0)
        go j q e l =
            record {
              task = l.task;
              is_ready = ready_then j (λ same. inr (inr (λ z. let some = rw same at e in absurd (omega arith)))) l.is_ready;
              is_open = l.is_open;
              occupied = l.occupied;
              others = l.others;
            }

    pub keep_task : length line ≡ length t.awaits → no_circle line t.holder ≡ true → Fits (get_or t.priority i 0) r → (timers : List Timer)
        → length timers ≡ length t.timers
        → timers_right t.tasks (set t.state i r.state) t.ticks timers ≡ true
        → Parts (settled (with_line line (with_timers t.ticks timers (with_task i r t))))
    unfolding shaped
    keep_task line_long none f timers long right =
        record {
          shape = rw (long, line_long) (shaped_with i r t ∙ p.shape);
          counts = p.counts;
          tasks = tasks_kept f;
          regions = p.regions;
          entries = p.entries;
          holder = holder_kept;
          open_holders = open_holders_kept;
          awaits = awaits_kept;
          no_circle = none;
          queues = p.queues;
          criteria = p.criteria;
          elected = refl;
          timers = right;
        }
