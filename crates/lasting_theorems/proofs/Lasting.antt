-- No signal is lost, and nobody waits with its condition met.
use Prim.Native.Nat.{ℕ, ◌<◌}
use mathlib.Core.Path.{◌≡◌, refl, sym, ap, ◌∙◌}
use mathlib.Core.Bool.{Bool, true, false, cond, ◌&&◌, true≢false}
use mathlib.Core.List.{List, [], ◌∷◌}
use lib.Dec.{eqb}
use borrow.Author.Tests.{eqb-true, eqb-false, eq-eqb, not-false}
use Rattle.rules.specs.declared.Task.{Task}
use Rattle.rules.specs.declared.Timer.{Timer}
use Rattle.rules.specs.declared.Table.{Table}
use Rattle.rules.specs.declared.Call.{Call}
use Rattle.rules.specs.Numbers.{event_end, SIGNAL, START, STOP, END, WAIT, CLEAR, TICK}
use Rattle.rules.specs.Words.{is_zero, by_operation}
use Rattle.rules.specs.Events.{has, met, arrive}
use Rattle.rules.specs.Tasks.{as_started, as_stopped, signalled, waited, as_cleared}
use Rattle.rules.specs.Timers.{later, is_due}
use Rattle.rules.specs.Regions.{held_by_other}
use Rattle.rules.specs.Tables.{task_of, region_of, changed}
use Rattle.rules.specs.Validity.{shaped}
use Rattle.rules.specs.Refusals.{absent, missing, wrong_state, refusal}
use Rattle.rules.specs.Effects.{Effect, hands_on, ringing, ticked, nothing, operations, effect}
use Rattle.rules.specs.Step.{step}
use Rattle.rules.proofs.Bools.{◌&◌, or_left, or_right, both, not_intro}
use Rattle.rules.proofs.Bits.{bit_of_zero}
use Rattle.rules.proofs.Events.{has_arrived, has_other, has_cleared}
use Rattle.theorems.proofs.Tasks.{signalled_arrived}
use Rattle.theorems.proofs.Columns.{changed_same, task_other, changed_holds}
use Rattle.rules.proofs.Rules.{Parts}
use Rattle.rules.proofs.ValidTasks.{row_right_lem}
use Rattle.rules.proofs.Validity.{parts_of, waits_unmet}
use Rattle.rules.proofs.Refusals.{Accepted, accepted_facts}
use Rattle.rules.proofs.Effects.{either_effect, each_effect}
use Rattle.theorems.specs.Kept.{after_all}
use Rattle.lasting_theorems.specs.Lasting.{arrived_at, forgets, SignalArrives, EventStays, Remembered, NoSignalLost, NoneLeftWaiting}
use Rattle.theorems.proofs.Rows.{below_room}
use Rattle.theorems.proofs.Timers.{ring, ring_shaped}
use Rattle.theorems.proofs.Kept.{caller_of, numbered, there, caller_below, valid_after}

-- ---- one task

nothing_arrived : (e : ℕ) → has e 0 ≡ false
unfolding has
nothing_arrived e = ap (λ b. eqb b 1) (bit_of_zero e)

arrives_more : (e d a : ℕ) → has e a ≡ true → has e (arrive d a) ≡ true
arrives_more e d a h = go (eqb e d) refl
  where
    go : (b : Bool) → eqb e d ≡ b → has e (arrive d a) ≡ true
    go true s = rw (eqb-true e d s) (has_arrived d a)
    go false s = has_other e d a (eqb-false e d s) ∙ h

waited_arrived : (list operator : ℕ) (r : Task) → (waited list operator r).arrived ≡ r.arrived
unfolding waited
waited_arrived list operator r = go (met operator list r.arrived) refl
  where
    go : (b : Bool) → met operator list r.arrived ≡ b → (waited list operator r).arrived ≡ r.arrived
    go true e = rw e
    go false e = rw e

signalled_has : (e d : ℕ) (r : Task) → has e r.arrived ≡ true → has e (signalled d r).arrived ≡ true
signalled_has e d r h = rw (signalled_arrived d r) (arrives_more e d r.arrived h)

-- ---- the timers that are due

pub ringing_has : (e i n : ℕ) (rs : List Timer) (t : Table) → shaped t ≡ true → arrived_at t e i ≡ true → arrived_at (ringing n rs t) e i ≡ true
unfolding ringing
ringing_has e i n [] t shape h = h
ringing_has e i n (r ∷ rs) t shape h = ringing_has e i n rs (ring n r t) (ring_shaped n r t ∙ shape) (go (is_due n r))
  where
    go : (b : Bool) → arrived_at (cond b (changed r.owner (signalled r.event) t) t) e i ≡ true
    go true = changed_holds t shape r.owner (λ x. has e x.arrived ≡ true) (signalled r.event) (signalled_has e r.event) i h
    go false = h

-- ---- one call

module _ (t : Table) (p : Parts t) (c : Call) where
  module _ (e i : ℕ) (h : arrived_at t e i ≡ true) where
    -- a change of task j matters where j is i
    changed_has : (j : ℕ) (f : Task → Task) → j < t.tasks → (j ≡ i → has e (f (task_of t i)).arrived ≡ true)
        → arrived_at (changed j f t) e i ≡ true
    changed_has j f l k = go (eqb i j) refl
      where
        go : (b : Bool) → eqb i j ≡ b → arrived_at (changed j f t) e i ≡ true
        go true s =
            let same : i ≡ j = eqb-true i j s in
            rw same (ap (λ r. has e r.arrived) (changed_same t p.shape j (below_room t p j l) f) ∙ rw same at (k (sym same)))
        go false s = ap (λ r. has e r.arrived) (task_other j (f (task_of t j)) t i (eqb-false i j s)) ∙ h

    abbrev Stays : ℕ → Effect → Type 0
    Stays n x = Accepted t (numbered n c) → forgets e i (numbered n c) ≡ false → arrived_at x.table e i ≡ true

    untouched : {n : ℕ} → Accepted t (numbered n c) → forgets e i (numbered n c) ≡ false → arrived_at t e i ≡ true
    untouched o k = h

    start_stays : Stays START (by_operation nothing START operations t c)
    unfolding missing wrong_state
    start_stays o k = changed_has c.a as_started l (λ same. absurd (true≢false (sym h ∙ stood same)))
      where
        l : c.a < t.tasks
        l = there t.tasks c.a o.nothing_missing

        -- a stopped task has no event
        stood : c.a ≡ i → arrived_at t e i ≡ false
        stood same =
            let zero-state : (task_of t c.a).state ≡ 0 = eqb-true _ 0 (not-false _ o.right_state) in
            let row = (row_right_lem t p.tasks c.a l (below_room t p c.a l)).state_right in
            let none : (task_of t c.a).arrived ≡ 0 = eqb-true _ 0 (rw zero-state at row) in
            rw (← same, none) (nothing_arrived e)

    stop_stays : Stays STOP (by_operation nothing STOP operations t c)
    unfolding missing forgets
    stop_stays o k =
        changed_has c.a as_stopped (there t.tasks c.a o.nothing_missing)
        (λ same. absurd (true≢false (sym (eq-eqb c.a i same) ∙ k)))

    end_stays : Stays END (by_operation nothing END operations t c)
    unfolding forgets
    end_stays o k =
        changed_has c.caller as_stopped (caller_below t p c.caller (caller_of t c.caller o.barred o.not_elected))
        (λ same. absurd (true≢false (sym (eq-eqb c.caller i same) ∙ or_left _ false k)))

    signal_stays : Stays SIGNAL (by_operation nothing SIGNAL operations t c)
    unfolding missing
    signal_stays o k =
        changed_has c.b (signalled c.a) (there t.tasks c.b (or_right (absent event_end c.a) _ o.nothing_missing))
        (λ same. signalled_has e c.a (task_of t i) h)

    wait_stays : Stays WAIT (by_operation nothing WAIT operations t c)
    wait_stays o k =
        changed_has c.caller (waited c.a c.b) (caller_below t p c.caller (caller_of t c.caller o.barred o.not_elected))
        (λ same. rw (waited_arrived c.a c.b (task_of t i)) h)

    clear_stays : Stays CLEAR (by_operation nothing CLEAR operations t c)
    unfolding forgets
    clear_stays o k =
        changed_has c.caller (as_cleared c.a) (caller_below t p c.caller (caller_of t c.caller o.barred o.not_elected))
        (λ same.
        let kept : has e c.a ≡ false = simp (eq-eqb c.caller i same) at (or_left (eqb c.caller i && has e c.a) false k) in
        has_cleared e c.a (task_of t i).arrived ∙ both h (not_intro _ kept))

    tick_stays : Stays TICK (by_operation nothing TICK operations t c)
    unfolding ticked
    tick_stays o k = ringing_has e i (later t.ticks 1) t.timers t p.shape h

    effect_stays : Accepted t c → forgets e i c ≡ false → arrived_at (effect t c).table e i ≡ true
    effect_stays =
        each_effect t c Stays
        (start_stays & stop_stays & end_stays & signal_stays & wait_stays & clear_stays
        & (λ o k. either_effect (λ x. arrived_at x.table e i ≡ true) (held_by_other c.caller (region_of t c.a)) h h)
        & (λ o k. either_effect (λ x. arrived_at x.table e i ≡ true) (hands_on c.a t) h h)
        & untouched & untouched & untouched & untouched & tick_stays & tt)
        (λ n. untouched)

  effect_arrives : Accepted t c → c.operation ≡ SIGNAL → arrived_at (effect t c).table c.a c.b ≡ true
  unfolding effect missing
  effect_arrives o e = go c.operation e o
    where
      go : (n : ℕ) → n ≡ SIGNAL → Accepted t (numbered n c) → arrived_at (by_operation nothing n operations t c).table c.a c.b ≡ true
      go n s a = rw s (arrives (rw s at a))
        where
          arrives : Accepted t (numbered SIGNAL c) → arrived_at (changed c.b (signalled c.a) t) c.a c.b ≡ true
          arrives a =
              let l = there t.tasks c.b (or_right (absent event_end c.a) _ a.nothing_missing) in
              ap (λ r. has c.a r.arrived) (changed_same t p.shape c.b (below_room t p c.b l) (signalled c.a))
              ∙ rw (signalled_arrived c.a (task_of t c.b)) (has_arrived c.a (task_of t c.b).arrived)

pub signal_arrives : SignalArrives
unfolding step
signal_arrives t c z s =
    let o = accepted_facts t c z in
    rw z (effect_arrives t (parts_of t o.is_valid) c o s)

pub event_stays : EventStays
unfolding step
event_stays t c e i k h = go (is_zero (refusal t c)) refl
  where
    go : (b : Bool) → is_zero (refusal t c) ≡ b → arrived_at (step t c).table e i ≡ true
    go true z = let o = accepted_facts t c (eqb-true _ 0 z) in rw z (effect_stays t (parts_of t o.is_valid) c e i h o k)
    go false z = rw z h

-- ---- many calls

pub stays_through : (t : Table) (cs : List Call) (e i : ℕ) → Remembered e i cs → arrived_at t e i ≡ true → arrived_at (after_all t cs) e i ≡ true
stays_through t [] e i r h = h
stays_through t (c ∷ cs) e i r h = stays_through (step t c).table cs e i r.1 (event_stays t c e i r.0 h)

pub no_signal_lost : NoSignalLost
no_signal_lost t c cs z s r = stays_through (step t c).table cs c.a c.b r (signal_arrives t c z s)

pub none_left_waiting : NoneLeftWaiting
none_left_waiting t cs v = waits_unmet (after_all t cs) (valid_after t cs v)
