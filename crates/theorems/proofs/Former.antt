-- With closed regions only validity is the former: the columns that the election reads are the stored ones, and nobody is in a line.
use Prim.Native.Nat.{ℕ, zero, suc, ◌<◌, ◌≤◌}
use mathlib.Core.Path.{◌≡◌, refl, sym, ap, ◌∙◌}
use mathlib.Core.Bool.{Bool, true, false, not}
use native.Mathlib.Omega.{arith}
use lib.Dec.{ltb}
use lib.ListN.{get_or, length, replicate, length-replicate}
use borrow.Author.Tests.{eqb-true, eq-eqb, ltb-true, ltb-false}
use Rattle.rules.specs.declared.Table.{Table}
use Rattle.rules.specs.Numbers.{task_room, region_room, priority_end}
use Rattle.rules.specs.Urgency.{closed_holders, holding, holds_open, nobody_awaits}
use Rattle.rules.specs.Circles.{ends, no_circle}
use Rattle.rules.specs.Tables.{states_of, closed_of, election_of}
use Rattle.rules.specs.Validity.{shaped, priorities_in_range, zero_past, zero_past_counts, elected_right, marks_in_range, open_holders_right, awaits_right, valid}
use Rattle.rules.proofs.Bools.{◌&◌, given, shown, or_first, same_test}
use Rattle.rules.proofs.Counts.{below_all, within_at, within_all, past_at, past_all}
use Rattle.rules.proofs.Columns.{column_is}
use Rattle.rules.proofs.Ways.{onward_none, ends_here}
use Rattle.rules.proofs.Urgency.{states_quiet, urgencies_quiet}
use Rattle.rules.proofs.Rules.{rules_of, valid_of, Parts}
use Rattle.rules.proofs.ValidTasks.{length_states_of}
use Rattle.rules.proofs.Entries.{regions_long}
use Rattle.rules.proofs.Validity.{parts_of}
use Rattle.theorems.specs.Former.{former_election, former_shaped, former_zero_past_counts, former_valid, ClosedOnly}
use Rattle.theorems.proofs.Regions.{holder_elected_lem}
use Rattle.theorems.proofs.Entering.{small}

zeros_at : (n i : ℕ) → get_or {A = ℕ} (replicate n 0) i 0 ≡ 0
zeros_at zero i = refl
zeros_at (suc n) zero = refl
zeros_at (suc n) (suc i) = zeros_at n i

-- ---- a table where no region is open

module _ (t : Table) (q : ClosedOnly t) where
  pub none_waits : (i : ℕ) → get_or t.awaits i 0 ≡ 0
  none_waits i = rw q.awaits (zeros_at task_room i)

  none_open : (r : ℕ) → get_or t.opened r 0 ≡ 0
  none_open r = rw q.opened (zeros_at region_room r)

  awaits_long : length t.awaits ≡ task_room
  awaits_long = rw q.awaits (length-replicate {A = ℕ} task_room 0)

  opened_long : length t.opened ≡ region_room
  opened_long = rw q.opened (length-replicate {A = ℕ} region_room 0)

  quiet : nobody_awaits t.awaits ≡ true
  unfolding nobody_awaits
  quiet = below_all _ task_room (λ i k. eq-eqb _ 0 (none_waits i))

  pub holds_none : (i : ℕ) → holds_open t.opened t.holder i ≡ false
  unfolding holds_open
  holds_none i = ap not (below_all (λ r. not (holding t.opened t.holder i r)) region_room (λ r k. rw (none_open r) refl))

  -- the columns that the election reads are the stored ones
  pub closed_all : length t.holder ≡ region_room → closed_of t ≡ t.holder
  unfolding closed_holders
  closed_all long = column_is region_room _ t.holder long (λ r k. rw (none_open r) refl)

  pub states_all : length t.state ≡ task_room → states_of t ≡ t.state
  states_all long = states_quiet t.awaits t.state quiet long

  elects : length t.state ≡ task_room → length t.holder ≡ region_room → length t.priority ≡ task_room
      → ((i : ℕ) → i < task_room → get_or t.priority i 0 ≤ priority_end)
      → election_of t ≡ former_election t
  elects s h p low =
      rw (states_all s, closed_all h, urgencies_quiet t.priority t.awaits t.opened t.holder quiet p low) refl

  pub valid_elects : Parts t → election_of t ≡ former_election t
  unfolding shaped
  valid_elects p =
      elects (length_states_of t p.shape) (regions_long t p.shape).0 (eqb-true _ _ (given _ p.shape).0)
      (λ i k. let s = small t p i k in omega arith)

  -- ---- validity

  low_of : priorities_in_range t.tasks t.priority ≡ true → zero_past t.tasks task_room t.priority ≡ true
      → (i : ℕ) → i < task_room → get_or t.priority i 0 ≤ priority_end
  unfolding priorities_in_range zero_past
  low_of fits past i k = go (ltb i t.tasks) refl
    where
      go : (b : Bool) → ltb i t.tasks ≡ b → get_or t.priority i 0 ≤ priority_end
      go true e = let s = ltb-true (get_or t.priority i 0) priority_end (within_at _ _ _ i fits (ltb-true i t.tasks e) k) in omega arith
      go false e = let z = eqb-true (get_or t.priority i 0) 0 (past_at _ _ _ i past (ltb-false i t.tasks e) k) in omega arith

  formerly : valid t ≡ true → former_valid t ≡ true
  unfolding former_valid former_shaped former_zero_past_counts shaped zero_past_counts
  formerly v =
      let r = rules_of t v in
      let p = parts_of t v in
      let closed = closed_all (regions_long t p.shape).0 in
      let states = states_all (length_states_of t p.shape) in
      let (a, (b, (c, (d, (e, (f, (g, (h, (i, (j, (k, (l, rest)))))))))))) = given _ r.shape in
      let (z0, (z1, (z2, (z3, (z4, (z5, (z6, (z7, (z8, more))))))))) = given _ r.past_counts in
      shown _
      (shown _ (a & b & c & d & e & f & g & h & i & j & k & l & tt)
      & r.counts
      & r.priorities
      & r.bounds
      & r.events
      & r.lists
      & r.operators
      & r.holders
      & r.criteria
      & shown _ (z0 & z1 & z2 & z3 & z4 & z5 & z6 & z7 & z8 & tt)
      & r.past_lengths
      & r.rest
      & r.states
      & r.entries
      & rw closed at r.one_holder
      & rw (states, closed) at r.holder_ready
      & rw closed at r.holder_elected
      & r.lengths
      & eq-eqb _ _ (p.elected ∙ valid_elects p)
      & r.timers
      & tt)

  still : former_valid t ≡ true → valid t ≡ true
  unfolding former_valid former_shaped former_zero_past_counts shaped zero_past zero_past_counts elected_right marks_in_range open_holders_right no_circle awaits_right
  still former =
      let (sh, (co, (pr, (bo, (ev, (li, (op, (ho, (cr, (pa, (pl, (re, (st, (en, (oh, (hr, (he, (le, (el, (ti, end)))))))))))))))))))) = given _ former in
      let (a, (b, (c, (d, (e, (f, (g, (h, (i, (j, (k, (l, rest)))))))))))) = given _ sh in
      let (z0, (z1, (z2, (z3, (z4, (z5, (z6, (z7, (z8, more))))))))) = given _ pa in
      let closed = closed_all (eqb-true _ _ f) in
      let states = states_all (eqb-true _ _ b) in
      valid_of t
      (record {
        shape = shown _ (a & b & c & d & e & f & g & h & i & j & k & l & eq-eqb _ _ awaits_long & eq-eqb _ _ opened_long & tt);
        counts = co;
        priorities = pr;
        bounds = bo;
        events = ev;
        lists = li;
        operators = op;
        holders = ho;
        criteria = cr;
        past_counts =
            shown _
            (z0 & z1 & z2 & z3 & z4 & z5 & z6 & z7 & z8 & past_all _ _ _ (λ m n o. eq-eqb _ 0 (none_waits m)) & past_all _ _ _ (λ m n o. eq-eqb _ 0 (none_open m)) & tt);
        past_lengths = pl;
        rest = re;
        states = st;
        entries = en;
        one_holder = rw closed oh;
        holder_ready = rw (states, closed) hr;
        holder_elected = rw closed he;
        lengths = le;
        elected = eq-eqb _ _ (eqb-true _ _ el ∙ sym (elects (eqb-true _ _ b) (eqb-true _ _ f) (eqb-true _ _ a) (low_of pr z0)));
        timers = ti;
        marks = within_all _ _ _ (λ m n o. rw (none_open m) refl);
        open_holders = within_all _ _ _ (λ m n o. rw (none_open m) refl);
        no_circle = below_all (ends t.awaits t.holder task_room) task_room (λ m n. ends_here t.awaits t.holder task_room m (onward_none t.awaits t.holder m (none_waits m)));
        awaits = within_all _ _ _ (λ m n o. or_first _ _ (eq-eqb _ 0 (none_waits m)));
      })

  pub validity_same : valid t ≡ former_valid t
  validity_same = same_test (valid t) (former_valid t) formerly still
