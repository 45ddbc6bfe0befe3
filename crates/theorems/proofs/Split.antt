-- A table is its tasks with timers and counter, and the rest, and the elected task is a function of both: what comes from outside changes the
-- first, a call that passes SIGNAL the rest.
use Prim.Native.Nat.{ℕ}
use mathlib.Core.Path.{◌≡◌, refl, ap, ◌∙◌}
use mathlib.Core.Bool.{Bool, true, false, cond, not, ◌&&◌, and-false, and-true}
use mathlib.Core.List.{List, [], ◌∷◌, map}
use lib.Dec.{eqb, leb}
use lib.ListN.{length}
use borrow.Author.Tests.{eq-eqb}
use Rattle.rules.specs.declared.Timer.{Timer}
use Rattle.rules.specs.declared.Table.{Table}
use Rattle.rules.specs.declared.Call.{Call}
use Rattle.rules.specs.Numbers.{outside, ENTER, EXIT, SEND, RETRIEVE, TICK}
use Rattle.rules.specs.Words.{is_zero, Reason, when, first}
use Rattle.rules.specs.Tasks.{is_stopped, signalled}
use Rattle.rules.specs.Queues.{none_fits}
use Rattle.rules.specs.Timers.{later, is_due, rung}
use Rattle.rules.specs.Regions.{held_by, held_by_other, entered, exited}
use Rattle.rules.specs.Tables.{task_of, region_of, bound_of, queue_of, changed, with_timers, with_region, with_elected, election_of, settled, elect_of}
use Rattle.rules.specs.Validity.{valid}
use Rattle.rules.specs.Answers.{done}
use Rattle.rules.specs.Refusals.{missing, wrong_state, leaves, inside, entries_full, closes_circle, stops_holder, reasons, refusal}
use Rattle.rules.specs.Effects.{Effect, plain, suspend, hand_on, hands_on, ringing, ticked, effect}
use Rattle.rules.specs.Step.{step}
use Rattle.rules.proofs.Validity.{parts_of}
use Rattle.exclusion.specs.Marks.{passes_signal}
use Rattle.exclusion.proofs.Table.{passes_cases}
use Rattle.theorems.specs.Happenings.{Signal, Tick, Outer, signal, tick, outer_call, Reply, reply, TickAccepted}
use Rattle.theorems.proofs.Kept.{numbered}
use Rattle.theorems.proofs.Timers.{ring}
use Rattle.theorems.proofs.Signals.{bad, signal_status, signal_table}
use Rattle.theorems.proofs.Outers.{outer_status, outer_table}

-- the tasks, timers and counter of one table and the rest of another
abbrev combined : Table → Table → Table
combined tasks rest =
    record {
      tasks = rest.tasks;
      regions = rest.regions;
      queues = rest.queues;
      elected = rest.elected;
      priority = rest.priority;
      state = tasks.state;
      arrived = tasks.arrived;
      list = tasks.list;
      operator = tasks.operator;
      awaits = rest.awaits;
      holder = rest.holder;
      entries = rest.entries;
      opened = rest.opened;
      bound = rest.bound;
      length = rest.length;
      element = rest.element;
      criterion = rest.criterion;
      ticks = tasks.ticks;
      timers = tasks.timers;
    }

-- with the elected task that they give
abbrev pub mixed : Table → Table → Table
mixed tasks rest = settled (combined tasks rest)

pub valid_mixed : (t : Table) → valid t ≡ true → t ≡ mixed t t
valid_mixed t v = ap (λ e. with_elected e t) (parts_of t v).elected

-- ---- what comes from outside

-- the timers that are due signal tasks alone
ringing_mixed : (n : ℕ) (rs : List Timer) (who : ℕ) (k t : Table) → ringing n rs (with_elected who (combined k t)) ≡ with_elected who (combined (ringing n rs k) t)
unfolding ringing
ringing_mixed n [] who k t = refl
ringing_mixed n (r ∷ rs) who k t = ap (ringing n rs) (go (is_due n r)) ∙ ringing_mixed n rs who (ring n r k) t
  where
    go : (b : Bool)
        → cond b (changed r.owner (signalled r.event) (with_elected who (combined k t))) (with_elected who (combined k t))
        ≡ with_elected who (combined (cond b (changed r.owner (signalled r.event) k) k) t)
    go true = refl
    go false = refl

ticked_mixed : (k t : Table) → settled (ticked (mixed k t)) ≡ mixed (ticked k) t
unfolding ticked
ticked_mixed k t =
    let n = later k.ticks 1 in
    ap (λ u. settled (with_timers n (map (rung n) k.timers) u)) (ringing_mixed n k.timers (election_of (combined k t)) k t)

module _ (k t : Table) (v : valid (mixed k t) ≡ true) where
  abbrev Came : Outer → Type 0
  Came o =
      ((step (mixed k t) (outer_call o)).table ≡ mixed (outer_table t.tasks k o) t)
      × ((step (mixed k t) (outer_call o)).answer.status ≡ outer_status t.tasks k o)

  step_signal : (s : Signal) → Came (signal s)
  unfolding step refusal reasons missing wrong_state leaves inside closes_circle stops_holder effect signal_table signal_status bad
  step_signal s = go (bad t.tasks s) (is_stopped (task_of k s.task)) refl refl
    where
      go : (b c : Bool) → bad t.tasks s ≡ b → is_stopped (task_of k s.task) ≡ c → Came (signal s)
      go true c h e = (simp (v, h), simp (v, h))
      go false true h e = (simp (v, h, e), simp (v, h, e))
      go false false h e = (simp (v, h, e), simp (v, h, e))

  step_tick : (m : Tick) → Came (tick m)
  unfolding step refusal reasons missing wrong_state leaves inside closes_circle stops_holder effect
  step_tick m = (simp v (ticked_mixed k t), simp v)

  pub step_outer : (o : Outer) → Came o
  step_outer (signal s) = step_signal s
  step_outer (tick m) = step_tick m

-- a TICK from outside, whatever its numbers say
pub tick_done : (t : Table) (c : Call) → valid t ≡ true → c.caller ≡ outside → c.operation ≡ TICK → step t c ≡ done (settled (ticked t)) 0 0 0 (elect_of t.elected (ticked t)).displaced
unfolding step refusal reasons missing wrong_state leaves inside closes_circle stops_holder effect
tick_done t c v who is = simp (v, who, is)

pub tick_accepted : TickAccepted
tick_accepted t n v = ap (λ d. d.answer.status) (tick_done t (outer_call (tick n)) v refl refl)

-- ---- a call that passes SIGNAL

-- why it is refused: only what the rest says
unfoldable pub rest_reasons : Table → Call → List Reason
rest_reasons t c =
    when 13 (eqb c.caller outside)
    ∷ when 14 (missing t.tasks t.regions t.queues c)
    ∷ when 16 (inside t.opened t.holder c)
    ∷ when 17 (eqb c.operation SEND && leb (bound_of t c.a) (length (queue_of t c.a)))
    ∷ when 18 (eqb c.operation RETRIEVE && none_fits c.c (queue_of t c.a))
    ∷ when 22 (eqb c.operation ENTER && entries_full (region_of t c.a) c.caller)
    ∷ when 23 (eqb c.operation EXIT && not (held_by c.caller (region_of t c.a)))
    ∷ when 24 (closes_circle t.awaits t.holder c)
    ∷ []

unfoldable pub rest_refusal : Table → Call → ℕ
rest_refusal t c = first (rest_reasons t c)

unfoldable pub call_table : Table → Call → Table
call_table t c = cond (is_zero (rest_refusal t c)) (effect t c).table t

unfoldable pub call_reply : Table → Call → Reply
call_reply t c =
    cond (is_zero (rest_refusal t c))
    (record { status = (effect t c).status; value = (effect t c).given.element; key = (effect t c).given.criterion })
    (record { status = rest_refusal t c; value = 0; key = 0 })

module _ (k t : Table) (c : Call) (free : passes_signal c.operation ≡ true) where
  rest_refusal_lem : valid (mixed k t) ≡ true → c.caller ≡ (mixed k t).elected → refusal (mixed k t) c ≡ rest_refusal t c
  unfolding refusal reasons missing wrong_state leaves inside closes_circle stops_holder rest_refusal rest_reasons queue_of
  rest_refusal_lem v is =
      let e = eq-eqb c.caller (mixed k t).elected is in
      passes_cases (λ n. refusal (mixed k t) (numbered n c) ≡ rest_refusal t (numbered n c))
      (simp (v, e, and-false, and-true))
      (simp (v, e, and-false, and-true))
      (simp (v, e, and-false, and-true))
      (simp (v, e, and-false, and-true))
      c.operation
      free

  abbrev RestOnly : Call → Type 0
  RestOnly d =
      (settled (effect (mixed k t) d).table ≡ mixed k (effect t d).table)
      × ((effect (mixed k t) d).status ≡ (effect t d).status)
      × ((effect (mixed k t) d).given ≡ (effect t d).given)

  rest_only : RestOnly c
  unfolding effect queue_of
  rest_only =
      passes_cases (λ n. RestOnly (numbered n c)) (enters (held_by_other c.caller (region_of t c.a))) (exits (hands_on c.a t)) (refl, refl, refl) (refl, refl, refl)
      c.operation free
    where
      -- ENTER and EXIT do one of two things each, and which one the rest says
      Both : Effect → Effect → Type 0
      Both e f = (settled e.table ≡ mixed k f.table) × (e.status ≡ f.status) × (e.given ≡ f.given)

      enters : (b : Bool)
          → Both (cond b (suspend (mixed k t) c) (plain (with_region c.a (entered c.caller (region_of t c.a)) (mixed k t))))
          (cond b (suspend t c) (plain (with_region c.a (entered c.caller (region_of t c.a)) t)))
      enters true = (refl, refl, refl)
      enters false = (refl, refl, refl)

      exits : (b : Bool)
          → Both (cond b (plain (hand_on c.a (mixed k t))) (plain (with_region c.a (exited (region_of t c.a)) (mixed k t))))
          (cond b (plain (hand_on c.a t)) (plain (with_region c.a (exited (region_of t c.a)) t)))
      exits true = (refl, refl, refl)
      exits false = (refl, refl, refl)

  abbrev Called : Type 0
  Called = ((step (mixed k t) c).table ≡ mixed k (call_table t c)) × (reply (step (mixed k t) c).answer ≡ call_reply t c)

  pub step_call : valid (mixed k t) ≡ true → c.caller ≡ (mixed k t).elected → Called
  unfolding step call_table call_reply
  step_call v is = go (is_zero (rest_refusal t c)) refl
    where
      q : refusal (mixed k t) c ≡ rest_refusal t c
      q = rest_refusal_lem v is

      go : (b : Bool) → is_zero (rest_refusal t c) ≡ b → Called
      go true z = (
        simp (q, z) rest_only.0,
        simp (q, z) (λ i. record { status = rest_only.1 i; value = (rest_only.2 i).element; key = (rest_only.2 i).criterion }),
      )
      go false z = (simp (q, z), simp (q, z))
