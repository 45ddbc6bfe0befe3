-- A table has the rules of the list exactly if it has the parts by subject, and so passes the check exactly if it is valid.
use Prim.Native.Nat.{ℕ, ◌<◌}
use mathlib.Core.Path.{◌≡◌}
use mathlib.Core.Bool.{Bool, true, false, not}
use mathlib.Core.List.{List, [], ◌∷◌}
use native.Mathlib.Omega.{arith}
use lib.Dec.{eqb}
use borrow.Author.Tests.{eqb-true, eq-eqb, not-true}
use Rattle.rules.specs.declared.Table.{Table}
use Rattle.rules.specs.Numbers.{task_room, queue_room}
use Rattle.rules.specs.Words.{is_zero, all}
use Rattle.rules.specs.Events.{met}
use Rattle.rules.specs.Tasks.{waiting, is_waiting}
use Rattle.rules.specs.Regions.{held}
use Rattle.rules.specs.Tables.{task_of, bound_of, states_of, closed_of, election_of}
use Rattle.rules.specs.Validity.{shaped, counts_in_range, priorities_in_range, bound_in_range, bounds_in_range, lists_in_range, operators_in_range, holders_in_range, criteria_in_range, zero_past, zero_past_counts, zero_past_lengths, rest_right, states_right, entries_right, one_holder, lengths_right, elected_right, timers_right, marks_in_range, open_holders_right, awaits_right, valid}
use Rattle.rules.specs.Circles.{no_circle}
use Rattle.rules.specs.Checks.{row_zero, tasks_right, regions_right, entries_everywhere, holder_right, open_holders_fit, awaits_fit, queues_right}
use Rattle.rules.proofs.Bools.{given, shown, ◌&◌, and_left, and_right, same_test}
use Rattle.rules.proofs.Counts.{below_all, within_all, past_all}
use Rattle.rules.proofs.Rules.{Rules, rules_of, valid_of, Parts, counts_fit}
use Rattle.rules.proofs.ValidTasks.{RowAt, tasks_gathered, row_right_lem, row_zero_lem}
use Rattle.rules.proofs.ValidRegions.{regions_gathered, entries_gathered, holder_gathered, open_holders_gathered, awaits_gathered, mark_in_range_lem, unmarked, entry_fits, same_holder, free_past, entries_fit_lem, uncounted, holder_is_ready, holder_is_elected, open_holder_ready, await_fits_lem, awaits_past}
use Rattle.rules.proofs.ValidQueues.{queues_gathered, used, unused, zeros_behind}

-- ---- from the list to the parts

pub parts_of : (t : Table) → valid t ≡ true → Parts t
unfolding elected_right
parts_of t v =
    let r = rules_of t v in
    record {
      shape = r.shape;
      counts = r.counts;
      tasks = tasks_gathered t r;
      regions = regions_gathered t r;
      entries = entries_gathered t r;
      holder = holder_gathered t r;
      open_holders = open_holders_gathered t r;
      awaits = awaits_gathered t r;
      no_circle = r.no_circle;
      queues = queues_gathered t r;
      criteria = r.criteria;
      elected = eqb-true _ _ r.elected;
      timers = r.timers;
    }

-- ---- and back

module _ (t : Table) (p : Parts t) where
  right : (i : ℕ) → i < t.tasks → i < task_room → RowAt t i
  right = row_right_lem t p.tasks

  past_counts : zero_past_counts t ≡ true
  unfolding zero_past zero_past_counts row_zero
  past_counts =
      shown _
      (past_all _ _ _ (λ i l k. (given _ (row_zero_lem t p.tasks i l k)).0)
      & past_all _ _ _ (λ i l k. (given _ (row_zero_lem t p.tasks i l k)).1.0)
      & past_all _ _ _ (λ i l k. (given _ (row_zero_lem t p.tasks i l k)).1.1.0)
      & past_all _ _ _ (λ i l k. (given _ (row_zero_lem t p.tasks i l k)).1.1.1.0)
      & past_all _ _ _ (λ i l k. (given _ (row_zero_lem t p.tasks i l k)).1.1.1.1.0)
      & past_all _ _ _ (free_past t p)
      & past_all _ _ _ (uncounted t p)
      & past_all _ _ _ (λ q l k. and_left _ _ (unused t p q l k))
      & past_all _ _ _ (λ q l k. and_right (is_zero (bound_of t q)) _ (unused t p q l k))
      & past_all _ _ _ (awaits_past t p)
      & past_all _ _ _ (unmarked t p)
      & tt)

  rules_gathered : Rules t
  unfolding priorities_in_range bounds_in_range lists_in_range operators_in_range holders_in_range zero_past_lengths rest_right states_right entries_right one_holder lengths_right elected_right marks_in_range open_holders_right awaits_right
  rules_gathered =
      record {
        shape = p.shape;
        counts = p.counts;
        priorities = within_all _ _ _ (λ i l k. (right i l k).priority_fits);
        bounds = within_all _ _ _ (λ q l k. and_left _ _ (used t p q l k));
        events = within_all _ _ _ (λ i l k. (right i l k).arrived_fits);
        lists = within_all _ _ _ (λ i l k. (right i l k).list_fits);
        operators = within_all _ _ _ (λ i l k. (right i l k).operator_fits);
        holders = within_all _ _ _ (λ i l k. entry_fits t p i k);
        criteria = p.criteria;
        past_counts = past_counts;
        past_lengths = below_all _ queue_room (zeros_behind t p);
        rest = within_all _ _ _ (λ i l k. (right i l k).rest);
        states = within_all _ _ _ (λ i l k. (right i l k).state_right);
        entries = within_all _ _ _ (λ i l k. entries_fit_lem t p i k);
        one_holder = within_all _ _ _ (λ i l k. same_holder t p i k);
        holder_ready = holder_is_ready t p;
        holder_elected = holder_is_elected t p;
        lengths = within_all _ _ _ (λ q l k. and_right (bound_in_range (bound_of t q)) _ (used t p q l k));
        elected = eq-eqb _ _ p.elected;
        timers = p.timers;
        marks = within_all _ _ _ (λ i l k. mark_in_range_lem t p i k);
        open_holders = within_all _ _ _ (λ i l k. open_holder_ready t p i k);
        no_circle = p.no_circle;
        awaits = within_all _ _ _ (λ i l k. await_fits_lem t p i k);
      }

  pub valid_parts : valid t ≡ true
  valid_parts = valid_of t rules_gathered

-- ---- the check: what a table of the right shape has to pass

abbrev pub checks : Table → List Bool
checks t =
    counts_in_range t.tasks t.regions t.queues
    ∷ tasks_right t.tasks t.priority t.state t.arrived t.list t.operator
    ∷ regions_right t.regions (held (closed_of t)) t.opened t.holder
    ∷ entries_everywhere t.holder t.entries
    ∷ holder_right t.tasks (states_of t) (held (closed_of t))
    ∷ open_holders_fit t.tasks t.state t.opened t.holder
    ∷ awaits_fit t.tasks t.state t.awaits t.opened t.holder
    ∷ no_circle t.awaits t.holder
    ∷ queues_right t.queues t.bound t.length t.element t.criterion
    ∷ criteria_in_range t.criterion
    ∷ eqb t.elected (election_of t)
    ∷ timers_right t.tasks t.state t.ticks t.timers
    ∷ []

pub valid_is : (t : Table) → shaped t ≡ true → valid t ≡ all (checks t)
valid_is t s = same_test (valid t) (all (checks t)) passes holds
  where
    passes : valid t ≡ true → all (checks t) ≡ true
    passes v =
        let p = parts_of t v in
        shown (checks t)
        (p.counts & p.tasks & p.regions & p.entries & p.holder & p.open_holders & p.awaits & p.no_circle & p.queues & p.criteria & eq-eqb _ _ p.elected & p.timers & tt)

    holds : all (checks t) ≡ true → valid t ≡ true
    holds h =
        let (a, (b, (c, (w, (d, (o, (x, (n, (e, (f, (g, (i, j)))))))))))) = given (checks t) h in
        valid_parts t
        (record {
          shape = s;
          counts = a;
          tasks = b;
          regions = c;
          entries = w;
          holder = d;
          open_holders = o;
          awaits = x;
          no_circle = n;
          queues = e;
          criteria = f;
          elected = eqb-true _ _ g;
          timers = i;
        })

-- ---- a law for the class: in a valid table no task waits with its condition met

pub waits_unmet : (t : Table) → valid t ≡ true → (i : ℕ) → i < t.tasks → is_waiting (task_of t i) ≡ true
    → met (task_of t i).operator (task_of t i).list (task_of t i).arrived ≡ false
waits_unmet t v i l w =
    let p = parts_of t v in
    let k : i < task_room = omega (arith, counts_fit t.tasks t.regions t.queues p.counts) in
    let two : (task_of t i).state ≡ waiting = eqb-true _ waiting w in
    not-true _ (and_right (not (is_zero (task_of t i).list)) _ (rw two at (row_right_lem t p.tasks i l k).state_right))
