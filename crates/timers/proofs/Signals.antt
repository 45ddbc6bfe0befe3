-- Laws of a tick's signals: a turn and the end of the loop over the timers, and that in a valid table they are what the rules say.
use Rattle.std.proofs.Common.{◌≡◌, ℕ, ◌+◌, ◌<◌, ◌≤◌, Bool, true, false, cond, not, ◌&&◌, ◌||◌, ltb, List, [], ◌∷◌, map, length, get_or, drop, sym, refl, ap, ◌∙◌, mod-eq_of_lt, add-one, arith, drop_of_length-le, drop-cons, ltb-true, lt-ltb, leb-true}
use Rattle.rules.specs.declared.Timer.{Timer}
use Rattle.rules.specs.declared.Table.{Table}
use Rattle.rules.specs.Numbers.{task_room, event_end, tick_end}
use Rattle.rules.specs.Words.{every}
use Rattle.rules.specs.Tasks.{signalled}
use Rattle.rules.specs.Timers.{later, is_armed, is_due, rung}
use Rattle.rules.specs.Tables.{changed, with_timers}
use Rattle.rules.specs.Validity.{counts_in_range, timer_right, timers_right, valid}
use Rattle.rules.specs.Effects.{ringing, ticked}
use Rattle.rules.proofs.Bools.{and_left, and_right, both, given}
use Rattle.rules.proofs.Validity.{parts_of}
use Rattle.tables.specs.declared.front.Front.{Front}
use Rattle.tables.specs.Fronts.{whole}
use Rattle.timers.specs.Signals.{Rows, signalled_at, rung_row, rung_rows, rows_of, with_rows, rows_in, front_with, front_signalled, front_rung, front_ticked}

-- ---- one timer, as the code tests it

module _ (ticks : ℕ) (r : Timer) (f : Front) {due : Bool} {next : Front} (e : due ≡ is_due ticks r) where
  pub row_signalled : (due && ltb r.owner task_room) ≡ true → next ≡ front_signalled r.owner r.event f → next ≡ front_with (rung_row ticks r (rows_in f)) f
  unfolding rung_row
  row_signalled h k = rw (← e, h) k

  pub row_left : (due && ltb r.owner task_room) ≡ false → next ≡ f → next ≡ front_with (rung_row ticks r (rows_in f)) f
  unfolding rung_row
  row_left h k = rw (← e, h) k

-- ---- all of them: what is still to be rung

module _ (ticks i : ℕ) (l : List Timer) (f : Front) {z : Front} where
  pub rows_again : (d : Timer) {next : Front} → front_rung ticks (drop i l) f ≡ z → next ≡ front_with (rung_row ticks (get_or l i d) (rows_in f)) f
      → i < length l → front_rung ticks (drop (i + 1) l) next ≡ z
  unfolding rung_rows
  rows_again d k e h = rw (add-one, e) (rw (drop-cons l i d) at k)

  pub rows_end : front_rung ticks (drop i l) f ≡ z → length l ≤ i → f ≡ z
  unfolding rung_rows
  rows_end k h = rw drop_of_length-le at k

-- ---- what the rules say

-- a timer that is armed names a task of the columns and an event
unfoldable pub placed : Timer → Bool
placed r = not (is_armed r) || (ltb r.owner task_room && ltb r.event event_end)

-- one timer's signal, on the table and on its columns
row_is : (ticks : ℕ) (r : Timer) (t : Table) → placed r ≡ true
    → cond (is_due ticks r) (changed r.owner (signalled r.event) t) t ≡ with_rows (rung_row ticks r (rows_of t)) t
unfolding rung_row signalled_at placed
row_is ticks r t p = go (is_armed r) refl (is_due ticks r) refl
  where
    go : (a : Bool) → is_armed r ≡ a → (b : Bool) → is_due ticks r ≡ b
        → cond (is_due ticks r) (changed r.owner (signalled r.event) t) t ≡ with_rows (rung_row ticks r (rows_of t)) t
    go false f b e = rw f refl
    go true f false e = rw e refl
    go true f true e =
        let q : (ltb r.owner task_room && ltb r.event event_end) ≡ true = rw f at p in
        let owner = and_left (ltb r.owner task_room) (ltb r.event event_end) q in
        let event = ltb-true r.event event_end (and_right (ltb r.owner task_room) (ltb r.event event_end) q) in
        rw (e, owner, mod-eq_of_lt event) refl

pub ringing_rows : (ticks : ℕ) (timers : List Timer) (t : Table) → every placed timers ≡ true
    → ringing ticks timers t ≡ with_rows (rung_rows ticks timers (rows_of t)) t
unfolding ringing rung_rows every
ringing_rows ticks [] t p = refl
ringing_rows ticks (r ∷ rs) t p =
    ap (ringing ticks rs) (row_is ticks r t (and_left _ _ p))
    ∙ ringing_rows ticks rs (with_rows (rung_row ticks r (rows_of t)) t) (and_right (placed r) _ p)

-- ---- in a valid table

placed_one : (tasks ticks : ℕ) (states : List ℕ) (r : Timer) → tasks ≤ task_room → timer_right tasks states ticks r ≡ true → placed r ≡ true
unfolding placed timer_right
placed_one tasks ticks states r l = go (is_armed r) refl
  where
    go : (a : Bool) → is_armed r ≡ a → timer_right tasks states ticks r ≡ true → placed r ≡ true
    go false f h = rw f refl
    go true f h =
        let (owner, (running, (event, rest))) = given _ (rw f at h) in
        let near : r.owner < task_room = omega (arith, ltb-true r.owner tasks owner) in
        rw f (both (lt-ltb r.owner task_room near) event)

placed_each : (tasks ticks : ℕ) (states : List ℕ) (timers : List Timer) → tasks ≤ task_room → every (timer_right tasks states ticks) timers ≡ true
    → every placed timers ≡ true
unfolding every
placed_each tasks ticks states [] l h = refl
placed_each tasks ticks states (r ∷ rs) l h =
    both (placed_one tasks ticks states r l (and_left _ _ h))
    (placed_each tasks ticks states rs l (and_right (timer_right tasks states ticks r) _ h))

pub placed_all : (t : Table) → valid t ≡ true → every placed t.timers ≡ true
unfolding counts_in_range timers_right
placed_all t v =
    let p = parts_of t v in
    placed_each t.tasks t.ticks t.state t.timers (leb-true t.tasks task_room (given _ p.counts).1.0)
    (and_right (ltb t.ticks tick_end) _ p.timers)

-- TICK: the counter one on, the timers that were due idle, and their signals over the columns
pub ticked_rows : (t : Table) → valid t ≡ true
    → ticked t
    ≡ with_timers (later t.ticks 1) (map (rung (later t.ticks 1)) t.timers)
    (with_rows (rung_rows (later t.ticks 1) t.timers (rows_of t)) t)
unfolding ticked
ticked_rows t v =
    let n = later t.ticks 1 in
    ap (with_timers n (map (rung n) t.timers)) (ringing_rows n t.timers t (placed_all t v))

-- the same from what a counter, timers and rows are
pub ticked_is : (t : Table) (n : ℕ) (timers : List Timer) (rows : Rows) → valid t ≡ true → n ≡ later t.ticks 1 → timers ≡ map (rung n) t.timers
    → rows ≡ rung_rows n t.timers (rows_of t) → with_timers n timers (with_rows rows t) ≡ ticked t
ticked_is t n timers rows v e k h =
    ap (λ ts. with_timers n ts (with_rows rows t)) k
    ∙ ap (λ r. with_timers n (map (rung n) t.timers) (with_rows r t)) h
    ∙ ap (λ m. with_timers m (map (rung m) t.timers) (with_rows (rung_rows m t.timers (rows_of t)) t)) e
    ∙ sym (ticked_rows t v)

-- the same of a front
pub ticked_front : (f : Front) (es cs : List ℕ) → valid (whole f es cs) ≡ true → whole (front_ticked f) es cs ≡ ticked (whole f es cs)
ticked_front f es cs v = sym (ticked_rows (whole f es cs) v)
