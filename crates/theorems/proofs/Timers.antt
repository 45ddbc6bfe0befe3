-- A table whose timers change stays valid: ARM, DISARM, and TICK with the signals of the timers that are due.
use Prim.Native.Nat.{ℕ, ◌<◌, ◌≤◌}
use mathlib.Core.Path.{◌≡◌, refl, sym, ap, ◌∙◌, fun_ext}
use mathlib.Core.Logic.{inr}
use mathlib.Core.Bool.{Bool, true, false, cond}
use mathlib.Core.List.{List, [], ◌∷◌, map}
use lib.ListN.{length, length-map}
use borrow.Author.Tests.{eqb-true}
use Rattle.rules.specs.declared.Task.{Task}
use Rattle.rules.specs.declared.Timer.{Timer}
use Rattle.rules.specs.declared.Table.{Table}
use Rattle.rules.specs.Numbers.{event_end, timer_room, longest_delay}
use Rattle.rules.specs.Words.{every, altered}
use Rattle.rules.specs.Tasks.{is_stopped, signalled}
use Rattle.rules.specs.Timers.{later, as_armed, disarmed, is_due, rung}
use Rattle.rules.specs.Tables.{task_of, with_timers, changed, settled}
use Rattle.rules.specs.Validity.{shaped, timer_right, timers_right}
use Rattle.rules.specs.Refusals.{stopped_at}
use Rattle.rules.specs.Effects.{ringing, ticked}
use Rattle.rules.proofs.Bools.{given, and_left}
use Rattle.rules.proofs.Lists.{every_head, every_tail, length_altered}
use Rattle.theorems.proofs.Tasks.{signalled_stopped, signalled_ready}
use Rattle.theorems.proofs.Columns.{shaped_with, changed_leaves}
use Rattle.rules.proofs.Clock.{later_fits}
use Rattle.theorems.proofs.ArmedTimers.{Counting, every_map, every_altered, timer_given, timer_states, armed_right, disarmed_right, rung_right, counter_fits, each_right, timers_shown, timers_states}
use Rattle.rules.proofs.Rules.{Parts}
use Rattle.rules.proofs.ValidTasks.{row_right_lem}
use Rattle.rules.proofs.Effects.{ringing_same}
use Rattle.theorems.proofs.Rows.{signalled_fits, below_room, keep_task, timers_awake}

-- ---- only the timers and the counter change

pub timers_long : (t : Table) → Parts t → length t.timers ≡ timer_room
unfolding shaped
timers_long t p = eqb-true _ _ (given _ p.shape).1.1.1.1.1.1.1.1.1.1.1.0

timers_shaped : (t : Table) (ticks : ℕ) (timers : List Timer) → length timers ≡ length t.timers → shaped (with_timers ticks timers t) ≡ shaped t
unfolding shaped
timers_shaped t ticks timers long = rw long

keep_timers : (t : Table) → Parts t → (ticks : ℕ) (timers : List Timer) → length timers ≡ length t.timers
    → timers_right t.tasks t.state ticks timers ≡ true → Parts (settled (with_timers ticks timers t))
unfolding shaped
keep_timers t p ticks timers long right =
    record {
      shape = timers_shaped t ticks timers long ∙ p.shape;
      counts = p.counts;
      tasks = p.tasks;
      regions = p.regions;
      entries = p.entries;
      holder = p.holder;
      open_holders = p.open_holders;
      awaits = p.awaits;
      no_circle = p.no_circle;
      queues = p.queues;
      criteria = p.criteria;
      elected = refl;
      timers = right;
    }

module _ (t : Table) (p : Parts t) (a : ℕ) where
  -- one timer changed
  one_timer : (f : Timer → Timer)
      → ((r : Timer) → timer_right t.tasks t.state t.ticks r ≡ true → timer_right t.tasks t.state t.ticks (f r) ≡ true)
      → Parts (settled (with_timers t.ticks (altered a f t.timers) t))
  one_timer f k =
      keep_timers t p t.ticks (altered a f t.timers) (length_altered f a t.timers)
      (timers_shown _ _ _ _ (counter_fits _ _ _ _ p.timers)
      (every_altered (timer_right t.tasks t.state t.ticks) f k a t.timers (each_right _ _ _ _ p.timers)))

  pub keep_arm : (caller event delay : ℕ) → caller < t.tasks → stopped_at t.state caller ≡ false → event < event_end → 0 < delay → delay ≤ longest_delay
      → Parts (settled (with_timers t.ticks (altered a (as_armed caller event (later t.ticks delay)) t.timers) t))
  keep_arm caller event delay l w e z d =
      one_timer (as_armed caller event (later t.ticks delay))
      (λ r h. armed_right t.tasks t.state t.ticks (counter_fits _ _ _ _ p.timers) caller event delay l w e z d r)

  pub keep_disarm : (caller : ℕ) → Parts (settled (with_timers t.ticks (altered a (disarmed caller) t.timers) t))
  keep_disarm caller = one_timer (disarmed caller) (λ r h. disarmed_right t.tasks t.state t.ticks r h caller)

-- ---- the timers that are due signal

ringing_shaped : (n : ℕ) (rs : List Timer) (t : Table) → shaped (ringing n rs t) ≡ shaped t
ringing_shaped = ringing_same shaped (λ i f t. shaped_with i (f (task_of t i)) t)

-- the first of a list of timers, if it is due
abbrev pub ring : ℕ → Timer → Table → Table
ring n r t = cond (is_due n r) (changed r.owner (signalled r.event) t) t

pub ring_shaped : (n : ℕ) (r : Timer) (t : Table) → shaped (ring n r t) ≡ shaped t
ring_shaped n r t = go (is_due n r)
  where
    go : (b : Bool) → shaped (cond b (changed r.owner (signalled r.event) t) t) ≡ shaped t
    go true = shaped_with r.owner _ t
    go false = refl

-- what a signal keeps of each task
ringing_leaves {ℓ} : {A : Type ℓ} (p : Task → A) → ((e : ℕ) (r : Task) → p (signalled e r) ≡ p r) → (n : ℕ) (rs : List Timer) (t : Table)
    → shaped t ≡ true → (i : ℕ) → p (task_of (ringing n rs t) i) ≡ p (task_of t i)
unfolding ringing
ringing_leaves p k n [] t shape i = refl
ringing_leaves p k n (r ∷ rs) t shape i =
    ringing_leaves p k n rs (ring n r t) (ring_shaped n r t ∙ shape) i ∙ go (is_due n r)
  where
    go : (b : Bool) → p (task_of (cond b (changed r.owner (signalled r.event) t) t) i) ≡ p (task_of t i)
    go true = changed_leaves t shape r.owner p (signalled r.event) (k r.event) i
    go false = refl

-- nobody is stopped by it, nor started
pub ringing_stopped : (n : ℕ) (rs : List Timer) (t : Table) → shaped t ≡ true → (i : ℕ) → stopped_at (ringing n rs t).state i ≡ stopped_at t.state i
ringing_stopped = ringing_leaves is_stopped signalled_stopped

-- one of them
ring_keeps : (t : Table) → Parts t → (r : Timer) → Counting t.tasks t.state t.ticks r
    → Parts (settled (changed r.owner (signalled r.event) t))
ring_keeps t p r c =
    let i = r.owner in
    let l = c.owner_there in
    keep_task t p i (signalled r.event (task_of t i)) l t.awaits (λ j. inr refl) (λ u g. signalled_ready r.event (task_of t i) g) refl p.no_circle
    (signalled_fits r.event c.event_there _ (task_of t i) c.awake (row_right_lem t p.tasks i l (below_room t p i l)))
    t.timers
    refl
    (timers_awake t p i (signalled r.event (task_of t i)) l (signalled_stopped r.event (task_of t i) ∙ c.awake))

-- all of them
abbrev AllRight : List Timer → Table → Type 0
AllRight rs t = every (timer_right t.tasks t.state t.ticks) rs ≡ true

ringing_keeps : (n : ℕ) (rs : List Timer) (t : Table) → Parts (settled t) → AllRight rs t → Parts (settled (ringing n rs t))
unfolding ringing shaped
ringing_keeps n [] t p h = p
ringing_keeps n (r ∷ rs) t p h = let x = go (is_due n r) refl in ringing_keeps n rs (ring n r t) x.0 x.1
  where
    u : Table
    u = changed r.owner (signalled r.event) t

    same : timer_right t.tasks t.state t.ticks ≡ timer_right t.tasks u.state t.ticks
    same =
        fun_ext
        (timer_states t.tasks t.state u.state t.ticks
        (λ i. sym (changed_leaves t p.shape r.owner is_stopped (signalled r.event) (signalled_stopped r.event) i)))

    go : (b : Bool) → is_due n r ≡ b → Parts (settled (cond b u t)) × AllRight rs (cond b u t)
    go true e = (
      ring_keeps (settled t) p r (timer_given r (and_left _ _ e) (every_head _ r rs h)),
      ap (λ q. every q rs) (sym same) ∙ every_tail _ r rs h,
    )
    go false e = (p, every_tail _ r rs h)

-- the timers are as many as they were
rung_long : (t : Table) (n : ℕ) → length (map (rung n) t.timers) ≡ length (ringing n t.timers t).timers
rung_long t n = length-map t.timers (rung n) ∙ ap length (sym (ringing_same (λ v. v.timers) (λ i f v. refl) n t.timers t))

pub ticked_shaped : (t : Table) → shaped (ticked t) ≡ shaped t
unfolding ticked
ticked_shaped t =
    let n = later t.ticks 1 in
    timers_shaped (ringing n t.timers t) n (map (rung n) t.timers) (rung_long t n) ∙ ringing_shaped n t.timers t

pub keep_tick : (t : Table) → Parts t → Parts (settled (ticked t))
unfolding ticked
keep_tick t p =
    let n = later t.ticks 1 in
    let u = ringing n t.timers t in
    keep_timers (settled u) (ringing_keeps n t.timers t at_rest (each_right _ _ _ _ p.timers)) n (map (rung n) t.timers)
    (rung_long t n)
    (rw (ringing_same (λ v. v.tasks) (λ i f v. refl) n t.timers t)
    (timers_states t.tasks u.state t.state n (map (rung n) t.timers) (ringing_stopped n t.timers t p.shape)
    ∙ timers_shown _ _ n _ (later_fits t.ticks 1)
    (every_map (timer_right t.tasks t.state t.ticks) _ (rung n)
    (λ r h. rung_right t.tasks t.state t.ticks r h (counter_fits _ _ _ _ p.timers))
    t.timers
    (each_right _ _ _ _ p.timers))))
  where
    at_rest : Parts (settled t)
    at_rest = keep_timers t p t.ticks t.timers refl p.timers
