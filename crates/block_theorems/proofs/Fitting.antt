-- Everything in a valid table fits its bytes, if the elements do.
use Rattle.std.proofs.Common.{ℕ, zero, suc, ◌^◌, ◌<◌, ◌≤◌, ◌≡◌, refl, Bool, true, false, ◌&&◌, List, [], ◌∷◌, arith, ltb, eqb, leb, get_or, length, eqb-true, ltb-true, ltb-false, leb-true, lt-ltb}
use mathlib.Core.Bool.{false≢true}
use native.Mathlib.Nat.{one-le-pow}
use lib.ListN.{get_or-eq_default}
use borrow.Author.Tests.{eqb-false}
use Rattle.rules.specs.declared.Timer.{Timer}
use Rattle.rules.specs.declared.Table.{Table}
use Rattle.rules.specs.Numbers.{task_room, region_room, most_entries, queue_room, places, store_size, criterion_end, event_end, timer_room, tick_end, nobody}
use Rattle.rules.specs.Words.{is_zero, every}
use Rattle.rules.specs.Timers.{is_armed}
use Rattle.rules.specs.Tables.{bound_of, length_of}
use Rattle.rules.specs.Validity.{shaped, counts_in_range, bound_in_range, criterion_in_range, criteria_in_range, state_right, timer_right, timers_right}
use Rattle.rules.proofs.Bools.{given, shown, and_left, and_right}
use Rattle.rules.proofs.Lists.{every_cons, every_nil}
use Rattle.rules.proofs.Counts.{below_at}
use Rattle.theorems.proofs.ArmedTimers.{every_kept}
use Rattle.theorems.proofs.Lines.{lined}
use Rattle.rules.specs.Checks.{row_zero, row_fits, tasks_right, bound_fits, queue_right, queues_right}
use Rattle.rules.proofs.Rules.{Parts}
use Rattle.rules.proofs.ValidTasks.{row_given, elected_below}
use Rattle.rules.proofs.ValidRegions.{mark_in_range_lem, entry_fits, entries_fit_lem}
use Rattle.rules.proofs.Entries.{entries_most}
use Rattle.packing.specs.Bytes.{half_width, word_width}
use Rattle.packing.proofs.RoundTrips.{fits, timer_fits}
use Rattle.block_theorems.specs.Ranges.{elements_in_range}

-- the arrays are as long as their types say
pub record Sized (t : Table) : Type 0 where
  pub priority : length t.priority ≡ task_room
  pub state : length t.state ≡ task_room
  pub arrived : length t.arrived ≡ task_room
  pub list : length t.list ≡ task_room
  pub operator : length t.operator ≡ task_room
  pub awaits : length t.awaits ≡ task_room
  pub holder : length t.holder ≡ region_room
  pub entries : length t.entries ≡ region_room
  pub opened : length t.opened ≡ region_room
  pub bound : length t.bound ≡ queue_room
  pub lengths : length t.length ≡ queue_room
  pub element : length t.element ≡ store_size
  pub criterion : length t.criterion ≡ store_size
  pub timers : length t.timers ≡ timer_room

-- each number fits the bytes that the layout has for it
pub record Fitting (t : Table) : Type 0 where
  pub tasks : fits 1 t.tasks ≡ true
  pub regions : fits 1 t.regions ≡ true
  pub queues : fits 1 t.queues ≡ true
  pub elected : fits 1 t.elected ≡ true
  pub priority : every (fits 1) t.priority ≡ true
  pub state : every (fits 1) t.state ≡ true
  pub arrived : every (fits 2) t.arrived ≡ true
  pub list : every (fits 2) t.list ≡ true
  pub operator : every (fits 1) t.operator ≡ true
  pub awaits : every (fits 1) t.awaits ≡ true
  pub holder : every (fits 1) t.holder ≡ true
  pub entries : every (fits 1) t.entries ≡ true
  pub opened : every (fits 1) t.opened ≡ true
  pub bound : every (fits 1) t.bound ≡ true
  pub lengths : every (fits 1) t.length ≡ true
  pub element : every (fits word_width) t.element ≡ true
  pub criterion : every (fits 1) t.criterion ≡ true
  pub ticks : fits word_width t.ticks ≡ true
  pub timers : every timer_fits t.timers ≡ true

-- ---- from validity

every_by : (p : ℕ → Bool) (xs : List ℕ) (n : ℕ) → length xs ≡ n → ((i : ℕ) → i < n → p (get_or xs i 0) ≡ true) → every p xs ≡ true
every_by p [] n l h = every_nil p
every_by p (x ∷ xs) zero l h = absurd (omega arith)
every_by p (x ∷ xs) (suc n) l h = every_cons p x xs (h 0 (omega arith)) (every_by p xs n (omega arith) (λ i k. h (suc i) (omega arith)))

-- smaller than what fits
smaller : (width n m : ℕ) → n ≤ m → m < 256 ^ width → fits width n ≡ true
smaller width n m h k = lt-ltb n (256 ^ width) (omega arith)

zero_fits : (width n : ℕ) → is_zero n ≡ true → fits width n ≡ true
zero_fits width n z = let e = eqb-true n 0 z in smaller width n 0 (omega arith) (one-le-pow width 256 (omega arith))

pub sized : (t : Table) → shaped t ≡ true → Sized t
unfolding shaped
sized t h =
    let (a, (b, (c, (d, (e, (f, (n, (g, (i, (j, (k, (l, (w, (o, u)))))))))))))) = given _ h in
    record {
      priority = eqb-true _ _ a;
      state = eqb-true _ _ b;
      arrived = eqb-true _ _ c;
      list = eqb-true _ _ d;
      operator = eqb-true _ _ e;
      awaits = eqb-true _ _ w;
      holder = eqb-true _ _ f;
      entries = eqb-true _ _ n;
      opened = eqb-true _ _ o;
      bound = eqb-true _ _ g;
      lengths = eqb-true _ _ i;
      element = eqb-true _ _ j;
      criterion = eqb-true _ _ k;
      timers = eqb-true _ _ l;
    }

state_small : (state arrived list operator : ℕ) → state_right state arrived list operator ≡ true → fits 1 state ≡ true
state_small zero a l o h = refl
state_small (suc zero) a l o h = refl
state_small (suc (suc zero)) a l o h = refl
state_small (suc (suc (suc more))) a l o h = absurd (false≢true h)

criterion_fits : (c : ℕ) → criterion_in_range c ≡ true → fits 1 c ≡ true
criterion_fits c h = let l = ltb-true c criterion_end h in smaller 1 c criterion_end (omega arith) (omega arith)

-- what fits of one task
record RowFits (priority state arrived list operator : ℕ) : Type 0 where
  priority_fits : fits 1 priority ≡ true
  state_fits : fits 1 state ≡ true
  arrived_fits : fits half_width arrived ≡ true
  list_fits : fits half_width list ≡ true
  operator_fits : fits 1 operator ≡ true

row_fits_lem : (tasks i priority state arrived list operator : ℕ) → row_fits tasks i priority state arrived list operator ≡ true
    → RowFits priority state arrived list operator
unfolding row_fits row_zero
row_fits_lem tasks i p s a l o h = go (ltb i tasks) refl
  where
    go : (b : Bool) → ltb i tasks ≡ b → RowFits p s a l o
    go true e =
        let r = row_given p s a l o (simp e at h) in
        record {
          priority_fits = r.priority_fits;
          state_fits = state_small s a l o r.state_right;
          arrived_fits = r.arrived_fits;
          list_fits = r.list_fits;
          operator_fits = smaller 1 o 1 (leb-true o 1 r.operator_fits) (omega arith);
        }
    go false e =
        let (p', (s', (a', (l', (o', u))))) = given _ (simp e at h) in
        record {
          priority_fits = zero_fits 1 p p';
          state_fits = zero_fits 1 s s';
          arrived_fits = zero_fits half_width a a';
          list_fits = zero_fits half_width l l';
          operator_fits = zero_fits 1 o o';
        }

module _ (t : Table) (p : Parts t) where
  row : (i : ℕ) → i < task_room
      → RowFits (get_or t.priority i 0) (get_or t.state i 0) (get_or t.arrived i 0) (get_or t.list i 0) (get_or t.operator i 0)
  unfolding tasks_right
  row i k = row_fits_lem t.tasks i _ _ _ _ _ (below_at _ task_room i p.tasks k)

  counts : (t.tasks ≤ task_room) × (t.regions ≤ region_room) × (t.queues ≤ queue_room)
  unfolding counts_in_range
  counts = let (a, (b, (c, (d, u)))) = given _ p.counts in (leb-true _ _ b, leb-true _ _ c, leb-true _ _ d)

  pub elected_fits : fits 1 t.elected ≡ true
  elected_fits = go (eqb t.elected nobody) refl
    where
      go : (b : Bool) → eqb t.elected nobody ≡ b → fits 1 t.elected ≡ true
      go true e = rw (eqb-true t.elected nobody e) refl
      go false e = smaller 1 t.elected task_room (let l = elected_below t p (eqb-false _ _ e) in let m = counts.0 in omega arith) (omega arith)

  holder_fits : (i : ℕ) → i < region_room → fits 1 (get_or t.holder i 0) ≡ true
  holder_fits i k =
      let l = leb-true (get_or t.holder i 0) t.tasks (entry_fits t p i k) in
      let m = counts.0 in
      smaller 1 (get_or t.holder i 0) task_room (omega arith) (omega arith)

  mark_small : (i : ℕ) → i < region_room → fits 1 (get_or t.opened i 0) ≡ true
  mark_small i k = smaller 1 (get_or t.opened i 0) 1 (leb-true _ 1 (mark_in_range_lem t p i k)) (omega arith)

  -- what a task waits for has a holder, so that it is one of the regions
  awaited_room : (i r : ℕ) → i < task_room → get_or t.awaits i 0 ≡ suc r → r < region_room
  awaited_room i r k e = go (ltb r region_room) refl
    where
      go : (b : Bool) → ltb r region_room ≡ b → r < region_room
      go true f = ltb-true r region_room f
      go false f =
          let past = ltb-false r region_room f in
          let free : get_or t.holder r 0 ≡ 0 = get_or-eq_default t.holder 0 (rw (sized t p.shape).holder past) in
          absurd ((lined t p i r k e).occupied free)

  await_fits_lem : (i : ℕ) → i < task_room → fits 1 (get_or t.awaits i 0) ≡ true
  await_fits_lem i k = go (get_or t.awaits i 0) refl
    where
      go : (entry : ℕ) → get_or t.awaits i 0 ≡ entry → fits 1 entry ≡ true
      go zero e = refl
      go (suc r) e = smaller 1 (suc r) region_room (awaited_room i r k e) (omega arith)

  counted_fits : (i : ℕ) → i < region_room → fits 1 (get_or t.entries i 0) ≡ true
  counted_fits i k =
      let n = get_or t.entries i 0 in
      let most = entries_most (get_or t.holder i 0) n (entries_fit_lem t p i k) in
      smaller 1 n most_entries most (omega arith)

  bound_small : (queues q bound n : ℕ) → bound_fits queues q bound n ≡ true → (bound ≤ places) × (n ≤ places)
  unfolding bound_fits
  bound_small queues q bound n h = go (ltb q queues) refl
    where
      go : (b : Bool) → ltb q queues ≡ b → (bound ≤ places) × (n ≤ places)
      go true e =
          let w : (bound_in_range bound && leb n bound) ≡ true = simp e at h in
          let m = leb-true bound places (and_right (ltb 0 bound) _ (and_left (bound_in_range bound) _ w)) in
          let l = leb-true n bound (and_right (bound_in_range bound) _ w) in
          (m, omega arith)
      go false e =
          let w : (is_zero bound && is_zero n) ≡ true = simp e at h in
          let b = eqb-true bound 0 (and_left (is_zero bound) _ w) in
          let m = eqb-true n 0 (and_right (is_zero bound) _ w) in
          (omega arith, omega arith)

  bounds : (q : ℕ) → q < queue_room → (bound_of t q ≤ places) × (length_of t q ≤ places)
  unfolding queues_right queue_right
  bounds q k = bound_small t.queues q _ _ (and_left _ _ (below_at _ queue_room q p.queues k))

  timer_fits_lem : (r : Timer) → timer_right t.tasks t.state t.ticks r ≡ true → timer_fits r ≡ true
  unfolding timer_right timer_fits
  timer_fits_lem r h = go (is_armed r) refl
    where
      go : (b : Bool) → is_armed r ≡ b → timer_fits r ≡ true
      go true e =
          let (o, (n, (v, (d, u)))) = given _ (simp e at h) in
          let armed = eqb-true r.armed 1 e in
          let owner = ltb-true r.owner t.tasks o in
          let event = ltb-true r.event event_end v in
          let few = counts.0 in
          let armed-fits = smaller 1 r.armed 1 (omega arith) (omega arith) in
          let owner-fits = smaller 1 r.owner task_room (omega arith) (omega arith) in
          let event_fits = smaller 1 r.event event_end (omega arith) (omega arith) in
          shown _ (armed-fits, (owner-fits, (event_fits, (d, tt))))
      go false e =
          let (a, (o, (v, (d, u)))) = given _ (simp e at h) in
          shown _ (zero_fits 1 r.armed a, (zero_fits 1 r.owner o, (zero_fits 1 r.event v, (zero_fits word_width r.date d, tt))))

  pub fitting : elements_in_range t ≡ true → Fitting t
  unfolding criteria_in_range timers_right
  fitting e =
      let s = sized t p.shape in
      let (m, n, q) = counts in
      record {
        tasks = smaller 1 t.tasks task_room m (omega arith);
        regions = smaller 1 t.regions region_room n (omega arith);
        queues = smaller 1 t.queues queue_room q (omega arith);
        elected = elected_fits;
        priority = every_by (fits 1) t.priority task_room s.priority (λ i k. (row i k).priority_fits);
        state = every_by (fits 1) t.state task_room s.state (λ i k. (row i k).state_fits);
        arrived = every_by (fits 2) t.arrived task_room s.arrived (λ i k. (row i k).arrived_fits);
        list = every_by (fits 2) t.list task_room s.list (λ i k. (row i k).list_fits);
        operator = every_by (fits 1) t.operator task_room s.operator (λ i k. (row i k).operator_fits);
        awaits = every_by (fits 1) t.awaits task_room s.awaits await_fits_lem;
        holder = every_by (fits 1) t.holder region_room s.holder holder_fits;
        entries = every_by (fits 1) t.entries region_room s.entries counted_fits;
        opened = every_by (fits 1) t.opened region_room s.opened mark_small;
        bound = every_by (fits 1) t.bound queue_room s.bound (λ q k. smaller 1 _ places (bounds q k).0 (omega arith));
        lengths = every_by (fits 1) t.length queue_room s.lengths (λ q k. smaller 1 _ places (bounds q k).1 (omega arith));
        element = e;
        criterion = every_kept criterion_in_range (fits 1) criterion_fits t.criterion p.criteria;
        ticks = and_left _ _ p.timers;
        timers =
            every_kept (timer_right t.tasks t.state t.ticks) timer_fits timer_fits_lem t.timers
            (and_right (ltb t.ticks tick_end) _ p.timers);
      }
