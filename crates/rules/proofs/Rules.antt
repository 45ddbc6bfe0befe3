-- Validity as a record: the rules of document 01's list, one by one, and gathered by what they speak of, as the laws of the other files use them.
use Prim.Native.Nat.{ℕ, ◌≤◌}
use mathlib.Core.Path.{◌≡◌}
use mathlib.Core.Bool.{true}
use borrow.Author.Tests.{leb-true}
use Rattle.rules.specs.declared.Table.{Table}
use Rattle.rules.specs.Numbers.{task_room, region_room, queue_room}
use Rattle.rules.specs.Regions.{held}
use Rattle.rules.specs.Circles.{no_circle}
use Rattle.rules.specs.Tables.{states_of, closed_of, election_of}
use Rattle.rules.specs.Validity.{shaped, counts_in_range, priorities_in_range, bounds_in_range, lists_in_range, operators_in_range, holders_in_range, criteria_in_range, zero_past_counts, zero_past_lengths, rest_right, states_right, entries_right, one_holder, holder_ready, holder_elected, lengths_right, elected_right, timers_right, marks_in_range, open_holders_right, awaits_right, valid}
use Rattle.rules.specs.Checks.{tasks_right, regions_right, entries_everywhere, holder_right, open_holders_fit, awaits_fit, queues_right}
use Rattle.rules.proofs.Bools.{given, shown, ◌&◌}

-- ---- the list, rule by rule

pub record Rules (t : Table) : Type 0 where
  pub shape : shaped t ≡ true
  pub counts : counts_in_range t.tasks t.regions t.queues ≡ true
  pub priorities : priorities_in_range t.tasks t.priority ≡ true
  pub bounds : bounds_in_range t.queues t.bound ≡ true
  pub events : lists_in_range t.tasks t.arrived ≡ true
  pub lists : lists_in_range t.tasks t.list ≡ true
  pub operators : operators_in_range t.tasks t.operator ≡ true
  pub holders : holders_in_range t.tasks t.regions t.holder ≡ true
  pub criteria : criteria_in_range t.criterion ≡ true
  pub past_counts : zero_past_counts t ≡ true
  pub past_lengths : zero_past_lengths t.length t.element t.criterion ≡ true
  pub rest : rest_right t ≡ true
  pub states : states_right t ≡ true
  pub entries : entries_right t.regions t.holder t.entries ≡ true
  pub one_holder : one_holder t.regions (closed_of t) ≡ true
  pub holder_ready : holder_ready (states_of t) (closed_of t) ≡ true
  pub holder_elected : holder_elected t.elected (closed_of t) ≡ true
  pub lengths : lengths_right t.queues t.bound t.length ≡ true
  pub elected : elected_right t ≡ true
  pub timers : timers_right t.tasks t.state t.ticks t.timers ≡ true
  pub marks : marks_in_range t.regions t.opened ≡ true
  pub open_holders : open_holders_right t.regions t.state t.opened t.holder ≡ true
  pub no_circle : no_circle t.awaits t.holder ≡ true
  pub awaits : awaits_right t.tasks t.state t.awaits t.opened t.holder ≡ true

pub rules_of : (t : Table) → valid t ≡ true → Rules t
unfolding valid
rules_of t v =
    let (a, (b, (c, (d, (e, (f, (g, (h, (i, (j, (k, (l, (m, (w, (n, (o, (p, (q, (r, (s, (u, (x, (y, (z, end)))))))))))))))))))))))) = given _ v in
    record {
      shape = a;
      counts = b;
      priorities = c;
      bounds = d;
      events = e;
      lists = f;
      operators = g;
      holders = h;
      criteria = i;
      past_counts = j;
      past_lengths = k;
      rest = l;
      states = m;
      entries = w;
      one_holder = n;
      holder_ready = o;
      holder_elected = p;
      lengths = q;
      elected = r;
      timers = s;
      marks = u;
      open_holders = x;
      no_circle = y;
      awaits = z;
    }

pub valid_of : (t : Table) → Rules t → valid t ≡ true
unfolding valid
valid_of t r =
    shown _
    (r.shape
    & r.counts
    & r.priorities
    & r.bounds
    & r.events
    & r.lists
    & r.operators
    & r.holders
    & r.criteria
    & r.past_counts
    & r.past_lengths
    & r.rest
    & r.states
    & r.entries
    & r.one_holder
    & r.holder_ready
    & r.holder_elected
    & r.lengths
    & r.elected
    & r.timers
    & r.marks
    & r.open_holders
    & r.no_circle
    & r.awaits
    & tt)

-- ---- the same by subject: `Validity` shows that a table has these exactly if it has those

pub record Parts (t : Table) : Type 0 where
  pub shape : shaped t ≡ true
  pub counts : counts_in_range t.tasks t.regions t.queues ≡ true
  pub tasks : tasks_right t.tasks t.priority t.state t.arrived t.list t.operator ≡ true
  pub regions : regions_right t.regions (held (closed_of t)) t.opened t.holder ≡ true
  pub entries : entries_everywhere t.holder t.entries ≡ true
  pub holder : holder_right t.tasks (states_of t) (held (closed_of t)) ≡ true
  pub open_holders : open_holders_fit t.tasks t.state t.opened t.holder ≡ true
  pub awaits : awaits_fit t.tasks t.state t.awaits t.opened t.holder ≡ true
  pub no_circle : no_circle t.awaits t.holder ≡ true
  pub queues : queues_right t.queues t.bound t.length t.element t.criterion ≡ true
  pub criteria : criteria_in_range t.criterion ≡ true
  pub elected : t.elected ≡ election_of t
  pub timers : timers_right t.tasks t.state t.ticks t.timers ≡ true

-- ---- the counts' ends

pub counts_fit : (tasks regions queues : ℕ) → counts_in_range tasks regions queues ≡ true
    → (tasks ≤ task_room) × (regions ≤ region_room) × (queues ≤ queue_room)
unfolding counts_in_range
counts_fit tasks regions queues h =
    let g = given _ h in
    (leb-true tasks task_room g.1.0, leb-true regions region_room g.1.1.0, leb-true queues queue_room g.1.1.1.0)
