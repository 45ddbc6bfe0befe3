-- What validity says of a task that waits for a region, as a record: it is stored as ready, and the region is open and another's.
use Prim.Native.Nat.{ℕ, zero, suc, ◌-◌, ◌<◌}
use mathlib.Core.Path.{◌≡◌, refl}
use mathlib.Core.Logic.{◌≢◌}
use mathlib.Core.Bool.{true, not, ◌&&◌}
use mathlib.Core.List.{List, [], ◌∷◌}
use native.Mathlib.Omega.{arith}
use lib.Dec.{eqb, ltb}
use lib.ListN.{get_or, length}
use borrow.Author.Tests.{eqb-false, ne_eqb, ltb-true, lt-ltb, not-true}
use Rattle.rules.specs.declared.Table.{Table}
use Rattle.rules.specs.Numbers.{task_room}
use Rattle.rules.specs.Words.{is_zero, names}
use Rattle.rules.specs.Tasks.{ready}
use Rattle.rules.specs.Urgency.{is_open}
use Rattle.rules.specs.Validity.{await_fits}
use Rattle.rules.specs.Checks.{await_right, awaits_fit}
use Rattle.rules.proofs.Bools.{◌&◌, given, shown, and_left, and_right, both, or_second, not_intro}
use Rattle.rules.proofs.Counts.{below_at, below_all}
use Rattle.rules.proofs.Rules.{Parts}

-- task i of so many, in this state, waits for a region with this mark and holder
pub record Lined (tasks i state mark holder : ℕ) : Type 0 where
  pub task : i < tasks
  pub is_ready : eqb state ready ≡ true
  pub is_open : is_open mark ≡ true
  pub occupied : holder ≢ 0
  pub others : holder ≢ suc i

module _ (tasks i state : ℕ) where
  lined_of : (entry mark holder : ℕ) → entry ≢ 0 → await_right tasks i state entry mark holder ≡ true → Lined tasks i state mark holder
  unfolding await_right
  lined_of entry mark holder some h =
      let right : (ltb i tasks && await_fits i state mark holder) ≡ true = rw (ne_eqb entry 0 some) at h in
      let (a, (b, (c, (d, rest)))) = given (eqb state ready ∷ is_open mark ∷ not (is_zero holder) ∷ not (names holder i) ∷ []) (and_right (ltb i tasks) _ right) in
      record {
        task = ltb-true i tasks (and_left _ _ right);
        is_ready = a;
        is_open = b;
        occupied = eqb-false holder 0 (not-true _ c);
        others = eqb-false holder (suc i) (not-true _ d);
      }

  lined_shown : (entry mark holder : ℕ) → Lined tasks i state mark holder → await_right tasks i state entry mark holder ≡ true
  unfolding await_right
  lined_shown entry mark holder l =
      or_second (is_zero entry) _
      (both {a = ltb i tasks} (lt-ltb i tasks l.task)
      (shown _
      (l.is_ready
      & l.is_open
      & not_intro _ (ne_eqb holder 0 l.occupied)
      & not_intro _ (ne_eqb holder (suc i) l.others)
      & tt)))

-- every task that waits does so rightly
module _ (tasks : ℕ) (states line opened holders : List ℕ) where
  pub awaits_shown : ((j q : ℕ) → j < task_room → get_or line j 0 ≡ suc q → Lined tasks j (get_or states j 0) (get_or opened q 0) (get_or holders q 0))
      → awaits_fit tasks states line opened holders ≡ true
  unfolding awaits_fit await_right
  awaits_shown right = below_all _ task_room (λ j k. go j k (get_or line j 0) refl)
    where
      go : (j : ℕ) → j < task_room → (entry : ℕ) → get_or line j 0 ≡ entry
          → await_right tasks j (get_or states j 0) (get_or line j 0) (get_or opened (get_or line j 0 - 1) 0) (get_or holders (get_or line j 0 - 1) 0) ≡ true
      go j k zero e = rw e refl
      go j k (suc q) e =
          let less : get_or line j 0 - 1 ≡ q = omega arith in
          rw less (lined_shown tasks j (get_or states j 0) (get_or line j 0) (get_or opened q 0) (get_or holders q 0) (right j q k e))

pub lined : (t : Table) → Parts t → (j q : ℕ) → j < task_room → get_or t.awaits j 0 ≡ suc q
    → Lined t.tasks j (get_or t.state j 0) (get_or t.opened q 0) (get_or t.holder q 0)
unfolding awaits_fit
lined t p j q k e =
    let less : get_or t.awaits j 0 - 1 ≡ q = omega arith in
    let some : get_or t.awaits j 0 ≢ 0 = omega arith in
    let right = below_at _ task_room j p.awaits k in
    rw less at (lined_of t.tasks j (get_or t.state j 0) (get_or t.awaits j 0) (get_or t.opened (get_or t.awaits j 0 - 1) 0) (get_or t.holder (get_or t.awaits j 0 - 1) 0) some right)

-- the table where the tasks wait so
abbrev pub with_line : List ℕ → Table → Table
with_line awaits t =
    record {
      tasks = t.tasks;
      regions = t.regions;
      queues = t.queues;
      elected = t.elected;
      priority = t.priority;
      state = t.state;
      arrived = t.arrived;
      list = t.list;
      operator = t.operator;
      awaits = awaits;
      holder = t.holder;
      entries = t.entries;
      opened = t.opened;
      bound = t.bound;
      length = t.length;
      element = t.element;
      criterion = t.criterion;
      ticks = t.ticks;
      timers = t.timers;
    }
