-- A timer that is due rings, and a delay ends at its last tick.
use Prim.Native.Nat.{ℕ, zero, suc, ◌+◌, ◌-◌, ◌<◌}
use mathlib.Core.Path.{◌≡◌, refl, sym, ap, ◌∙◌}
use mathlib.Core.Logic.{◌≢◌, ◌⊎◌, inl, inr, ⊎_elim}
use mathlib.Core.Bool.{Bool, true, false, cond, ◌&&◌, ◌||◌, true≢false, false≢true}
use mathlib.Core.List.{List, [], ◌∷◌, map}
use native.Mathlib.Omega.{arith}
use lib.Dec.{eqb}
use lib.ListN.{get_or, get_or-map}
use borrow.Author.Tests.{eqb-true, eqb-false, eq-eqb, ne_eqb, ltb-false, not-false}
use Rattle.rules.specs.declared.Timer.{Timer}
use Rattle.rules.specs.declared.Table.{Table}
use Rattle.rules.specs.declared.Call.{Call}
use Rattle.rules.specs.Numbers.{task_room, event_end, timer_room, tick_end, longest_delay, ARM, TICK, STOP, END, DISARM}
use Rattle.rules.specs.Words.{is_zero, altered, by_operation}
use Rattle.rules.specs.Events.{has}
use Rattle.rules.specs.Tasks.{signalled}
use Rattle.rules.specs.Timers.{later, ahead, idle, is_armed, as_armed, disarmed, is_due, rung}
use Rattle.rules.specs.Regions.{held_by_other}
use Rattle.rules.specs.Tables.{task_of, region_of, timer_of, changed, settled}
use Rattle.rules.specs.Validity.{shaped, timer_right, valid}
use Rattle.rules.specs.Refusals.{absent, bad_delay, missing, wrong_state, others_at, refusal}
use Rattle.rules.specs.Effects.{Effect, hands_on, ringing, ticked, nothing, operations, effect}
use Rattle.rules.specs.Step.{step}
use Rattle.rules.proofs.Bools.{◌&◌, and_left, and_right, or_left, or_right}
use Rattle.rules.proofs.Lists.{every_at, altered_here, altered_other}
use Rattle.rules.proofs.Events.{has_arrived, has_other}
use Rattle.theorems.proofs.Tasks.{signalled_arrived}
use Rattle.theorems.proofs.Columns.{changed_same, task_other, changed_leaves}
use Rattle.rules.proofs.Clock.{ahead_later, ahead_next}
use Rattle.theorems.proofs.ArmedTimers.{disarm_others, timer_given, idle_right, due_last, counter_fits, each_right}
use Rattle.rules.proofs.Rules.{Parts}
use Rattle.rules.proofs.Validity.{parts_of}
use Rattle.rules.proofs.Refusals.{Accepted, accepted_facts}
use Rattle.rules.proofs.Effects.{either_effect, each_effect}
use Rattle.theorems.specs.Kept.{after_all}
use Rattle.lasting_theorems.specs.Lasting.{arrived_at}
use Rattle.lasting_theorems.specs.Delays.{is_tick, due_next, DueRings, NoRingLost, OthersStay, OnlyDueRings, disturbs, LeftAlone, ticks_in, DelayKept}
use Rattle.theorems.proofs.Rows.{below_room}
use Rattle.theorems.proofs.Timers.{timers_long, ring, ring_shaped}
use Rattle.theorems.proofs.Kept.{numbered, there, valid_kept}
use Rattle.theorems.proofs.Split.{tick_done}
use Rattle.lasting_theorems.proofs.Lasting.{ringing_has, stays_through}

-- ---- one tick

-- the table after a tick
tick_table : (t : Table) (c : Call) → valid t ≡ true → is_tick c ≡ true → (step t c).table ≡ settled (ticked t)
tick_table t c v k =
    ap (λ d. d.table) (tick_done t c v (eqb-true _ _ (and_right (eqb c.operation TICK) _ k)) (eqb-true _ _ (and_left _ _ k)))

ticked_timer : (t : Table) (i : ℕ) → timer_of (ticked t) i ≡ rung (later t.ticks 1) (timer_of t i)
unfolding ticked
ticked_timer t i = get_or-map (rung (later t.ticks 1)) t.timers i idle

ticked_counter : (t : Table) → (ticked t).ticks ≡ later t.ticks 1
unfolding ticked
ticked_counter t = refl

-- the event of a timer that is due has arrived once all of them have signalled
ringing_arrives : (n : ℕ) (rs : List Timer) (t : Table) → shaped t ≡ true → (i : ℕ) → is_due n (get_or rs i idle) ≡ true
    → (get_or rs i idle).owner < task_room → arrived_at (ringing n rs t) (get_or rs i idle).event (get_or rs i idle).owner ≡ true
unfolding ringing
ringing_arrives n [] t shape i d l = absurd (false≢true d)
ringing_arrives n (r ∷ rs) t shape zero d l = ringing_has r.event r.owner n rs (ring n r t) (ring_shaped n r t ∙ shape) (rw d here)
  where
    here : arrived_at (changed r.owner (signalled r.event) t) r.event r.owner ≡ true
    here =
        ap (λ x. has r.event x.arrived) (changed_same t shape r.owner l (signalled r.event))
        ∙ rw (signalled_arrived r.event (task_of t r.owner)) (has_arrived r.event (task_of t r.owner).arrived)
ringing_arrives n (r ∷ rs) t shape (suc i) d l = ringing_arrives n rs (ring n r t) (ring_shaped n r t ∙ shape) i d l

module _ (t : Table) (v : valid t ≡ true) (i : ℕ) where
  p : Parts t
  p = parts_of t v

  right : timer_right t.tasks t.state t.ticks (timer_of t i) ≡ true
  right =
      every_at (timer_right t.tasks t.state t.ticks) t.timers i idle (each_right _ _ _ _ p.timers) (idle_right t.tasks t.state t.ticks)

  pub counter : t.ticks < tick_end
  counter = counter_fits _ _ _ _ p.timers

  rings_due : due_next t i ≡ true → arrived_at (ticked t) (timer_of t i).event (timer_of t i).owner ≡ true
  unfolding ticked
  rings_due d =
      ringing_arrives (later t.ticks 1) t.timers t p.shape i d
      (below_room t p (timer_of t i).owner (timer_given (timer_of t i) (and_left _ _ d) right).owner_there)

  -- the last tick of those that it has left
  due_one : is_armed (timer_of t i) ≡ true → due_next t i ≡ eqb (ahead (timer_of t i).date t.ticks) 1
  due_one a = due_last t.tasks t.state t.ticks (timer_of t i) right counter a

pub due_rings : DueRings
due_rings t c i v k d =
    let e = tick_table t c v k in (
      ap (λ u. arrived_at u (timer_of t i).event (timer_of t i).owner) e ∙ rings_due t v i d,
      ap (λ u. timer_of u i) e ∙ ticked_timer t i ∙ rw d refl,
    )

pub no_ring_lost : NoRingLost
no_ring_lost t c i cs v k d r =
    stays_through (step t c).table cs (timer_of t i).event (timer_of t i).owner r (due_rings t c i v k d).0

pub others_stay : OthersStay
others_stay t c i v k d = ap (λ u. timer_of u i) (tick_table t c v k) ∙ ticked_timer t i ∙ rw d refl

-- an event that a tick brings is one of a timer that is due
abbrev Brought : ℕ → List Timer → Table → ℕ → ℕ → Type 0
Brought n rs t e task =
    (arrived_at t e task ≡ true) ⊎ ((i : ℕ) × (is_due n (get_or rs i idle) ≡ true) × ((get_or rs i idle).event ≡ e) × ((get_or rs i idle).owner ≡ task))

ringing_brings : (n : ℕ) (rs : List Timer) (t : Table) → shaped t ≡ true → (e task : ℕ) → arrived_at (ringing n rs t) e task ≡ true
    → Brought n rs t e task
unfolding ringing
ringing_brings n [] t shape e task h = inl h
ringing_brings n (r ∷ rs) t shape e task h =
    ⊎_elim (go (is_due n r) refl) (λ q. inr (suc q.0, q.1, q.2, q.3)) (ringing_brings n rs (ring n r t) (ring_shaped n r t ∙ shape) e task h)
  where
    u : Table
    u = changed r.owner (signalled r.event) t

    go : (b : Bool) → is_due n r ≡ b → arrived_at (cond b u t) e task ≡ true → Brought n (r ∷ rs) t e task
    go false d k = inl k
    go true d k = at (eqb e r.event) (eqb task r.owner) refl refl
      where
        at : (b c : Bool) → eqb e r.event ≡ b → eqb task r.owner ≡ c → Brought n (r ∷ rs) t e task
        at true true x y = inr (zero, d, sym (eqb-true _ _ x), sym (eqb-true _ _ y))
        at true false x y =
            inl (ap (λ w. has e w.arrived) (sym (task_other r.owner (signalled r.event (task_of t r.owner)) t task (eqb-false _ _ y))) ∙ k)
        at false c x y =
            inl
            (sym (changed_leaves t shape r.owner (λ w. has e w.arrived) (signalled r.event)
            (λ w. ap (has e) (signalled_arrived r.event w) ∙ has_other e r.event w.arrived (eqb-false _ _ x))
            task)
            ∙ k)

pub only_due_rings : OnlyDueRings
unfolding ticked
only_due_rings t c e task v k h =
    ringing_brings (later t.ticks 1) t.timers t (parts_of t v).shape e task (ap (λ u. arrived_at u e task) (sym (tick_table t c v k)) ∙ h)

-- ---- a call that is no tick

other_way_lem : (a b : ℕ) → eqb a b ≡ false → eqb b a ≡ false
other_way_lem a b n = ne_eqb b a (λ s. eqb-false a b n (sym s))

module _ (t : Table) (c : Call) (i : ℕ) (armed : is_armed (timer_of t i) ≡ true) where
  -- a timer of another task is not disarmed
  stopped_other : (task : ℕ) → eqb task (timer_of t i).owner ≡ false → get_or (map (disarmed task) t.timers) i idle ≡ timer_of t i
  stopped_other task n = get_or-map (disarmed task) t.timers i idle ∙ disarm_others task (timer_of t i) n

  -- nor is it another's to arm or disarm
  altered_same_timer : (f : Timer → Timer) → (eqb c.a i && eqb c.caller (timer_of t i).owner) ≡ false → others_at t.timers c.caller c.a ≡ false
      → get_or (altered c.a f t.timers) i idle ≡ timer_of t i
  altered_same_timer f n o = go (eqb c.a i) refl
    where
      go : (b : Bool) → eqb c.a i ≡ b → get_or (altered c.a f t.timers) i idle ≡ timer_of t i
      go true e =
          let same : c.a ≡ i = eqb-true _ _ e in
          absurd (true≢false (simp (same, armed, other_way_lem c.caller (timer_of t i).owner (simp e at n)) at o))
      go false e = altered_other f c.a i idle t.timers (eqb-false _ _ e)

  abbrev Same : Effect → Type 0
  Same x = (timer_of x.table i ≡ timer_of t i) × (x.table.ticks ≡ t.ticks)

  abbrev Stays : ℕ → Effect → Type 0
  Stays n x = Accepted t (numbered n c) → disturbs i (timer_of t i).owner (numbered n c) ≡ false → is_tick (numbered n c) ≡ false → Same x

  untouched : {n : ℕ} → Accepted t (numbered n c) → disturbs i (timer_of t i).owner (numbered n c) ≡ false → is_tick (numbered n c) ≡ false
      → (timer_of t i ≡ timer_of t i) × (t.ticks ≡ t.ticks)
  untouched o d k = (refl, refl)

  stop_stays : Stays STOP (by_operation nothing STOP operations t c)
  unfolding disturbs
  stop_stays o d k = (stopped_other c.a d, refl)

  end_stays : Stays END (by_operation nothing END operations t c)
  unfolding disturbs
  end_stays o d k = (stopped_other c.caller (or_left _ false d), refl)

  arm_stays : Stays ARM (by_operation nothing ARM operations t c)
  unfolding disturbs wrong_state
  arm_stays o d k = (altered_same_timer (as_armed c.caller c.b (later t.ticks c.c)) (or_left _ false d) o.right_state, refl)

  disarm_stays : Stays DISARM (by_operation nothing DISARM operations t c)
  unfolding disturbs wrong_state
  disarm_stays o d k = (altered_same_timer (disarmed c.caller) (or_left _ false d) o.right_state, refl)

  -- a TICK that is accepted is one from outside
  tick_stays : Stays TICK (by_operation nothing TICK operations t c)
  tick_stays o d k = absurd (true≢false (sym (not-false _ o.no_tick) ∙ k))

  effect_stays : Accepted t c → disturbs i (timer_of t i).owner c ≡ false → is_tick c ≡ false
      → (timer_of (effect t c).table i ≡ timer_of t i) × ((effect t c).table.ticks ≡ t.ticks)
  effect_stays =
      each_effect t c Stays
      (untouched & stop_stays & end_stays & untouched & untouched & untouched
      & (λ o d k. either_effect Same (held_by_other c.caller (region_of t c.a)) (refl, refl) (refl, refl))
      & (λ o d k. either_effect Same (hands_on c.a t) (refl, refl) (refl, refl))
      & untouched & untouched & arm_stays & disarm_stays & tick_stays & tt)
      (λ n. untouched)

  timer_stays : disturbs i (timer_of t i).owner c ≡ false → is_tick c ≡ false
      → (timer_of (step t c).table i ≡ timer_of t i) × ((step t c).table.ticks ≡ t.ticks)
  unfolding step
  timer_stays d k = go (is_zero (refusal t c)) refl
    where
      go : (b : Bool) → is_zero (refusal t c) ≡ b → (timer_of (step t c).table i ≡ timer_of t i) × ((step t c).table.ticks ≡ t.ticks)
      go true z = rw z (effect_stays (accepted_facts t c (eqb-true _ 0 z)) d k)
      go false z = rw z (refl, refl)

-- ---- many calls

-- timer i stands like this, with so many ticks to come
record Left (t : Table) (i : ℕ) (r : Timer) (n : ℕ) : Type 0 where
  is_valid : valid t ≡ true
  stands : timer_of t i ≡ r
  armed : is_armed r ≡ true
  left : ahead r.date t.ticks ≡ n

module _ (t : Table) (i : ℕ) (r : Timer) (c : Call) where
  -- a tick takes one of them
  tick_takes : (n : ℕ) → 0 < n → is_tick c ≡ true → Left t i r (suc n) → Left (step t c).table i r n
  tick_takes n some k l =
      let v = l.is_valid in
      let same = l.stands in
      let next = ahead_next r.date t.ticks (counter t v i) (rw l.left (omega arith)) in
      let near : ahead r.date (later t.ticks 1) ≡ n = omega (arith, l.left) in
      let two : ahead r.date t.ticks ≢ 1 = λ one. absurd (omega (arith, l.left)) in
      let not-due : due_next t i ≡ false =
      due_one t v i (rw same l.armed) ∙ rw same (ne_eqb (ahead r.date t.ticks) 1 two) in
      record {
        is_valid = valid_kept t c v;
        stands = others_stay t c i v k not-due ∙ same;
        armed = l.armed;
        left = ap (λ u. ahead r.date u.ticks) (tick_table t c v k) ∙ rw (ticked_counter t) near;
      }

  -- another call takes none
  call_takes : (n : ℕ) → disturbs i r.owner c ≡ false → is_tick c ≡ false → Left t i r n → Left (step t c).table i r n
  call_takes n d k l =
      let same = l.stands in
      let stay = timer_stays t c i (rw same l.armed) (rw same d) k in
      record {
        is_valid = valid_kept t c l.is_valid;
        stands = stay.0 ∙ same;
        armed = l.armed;
        left = rw stay.1 l.left;
      }

-- fewer ticks than are left, and any calls that leave the timer alone
left_after : (cs : List Call) (t : Table) (i : ℕ) (r : Timer) (n : ℕ) → 0 < n → LeftAlone i r.owner cs → Left t i r (ticks_in cs + n)
    → Left (after_all t cs) i r n
left_after [] t i r n some alone l = let same : 0 + n ≡ n = omega arith in rw same at l
left_after (c ∷ cs) t i r n some alone l = left_after cs (step t c).table i r n some alone.1 (go (is_tick c) refl l)
  where
    go : (b : Bool) → is_tick c ≡ b → Left t i r (cond b (suc (ticks_in cs)) (ticks_in cs) + n) → Left (step t c).table i r (ticks_in cs + n)
    go true k h =
        let same : suc (ticks_in cs) + n ≡ suc (ticks_in cs + n) = omega arith in
        tick_takes t i r c (ticks_in cs + n) (omega arith) k (rw same at h)
    go false k h = call_takes t i r c (ticks_in cs + n) alone.0 k h

-- the ARM itself
module _ (t : Table) (c : Call) (z : refusal t c ≡ 0) (is : c.operation ≡ ARM) where
  abbrev set_to : Timer
  set_to = as_armed c.caller c.b (later t.ticks c.c) idle

  o : Accepted t (numbered ARM c)
  o = rw is at (accepted_facts t c z)

  v : valid t ≡ true
  v = o.is_valid

  armed_timer : timer_of (step t c).table c.a ≡ set_to
  unfolding step effect missing
  armed_timer =
      let l = there timer_room c.a (or_left _ (absent event_end c.b || bad_delay c.c) o.nothing_missing) in
      rw (z, is)
      (altered_here (as_armed c.caller c.b (later t.ticks c.c)) c.a idle t.timers (rw (timers_long t (parts_of t v)) l))

  same_counter : (step t c).table.ticks ≡ t.ticks
  unfolding step effect
  same_counter = rw (z, is) refl

  short : c.c < tick_end
  unfolding missing
  short =
      let delay = or_right (absent event_end c.b) _ (or_right (absent timer_room c.a) _ o.nothing_missing) in
      omega (arith, ltb-false longest_delay c.c (or_right (is_zero c.c) _ delay))

  begun : Left (step t c).table c.a set_to c.c
  begun =
      record {
        is_valid = valid_kept t c v;
        stands = armed_timer;
        armed = refl;
        left = rw same_counter (ahead_later t.ticks c.c (counter t v c.a) short);
      }

pub delay_kept : DelayKept
delay_kept t c cs z is alone fewer =
    let n = c.c - ticks_in cs in
    let u = after_all (step t c).table cs in
    let all : ticks_in cs + n ≡ c.c = omega arith in
    let l = left_after cs (step t c).table c.a (set_to t c z is) n (omega arith) alone (rw all (begun t c z is)) in
    let due : due_next u c.a ≡ eqb n 1 = due_one u l.is_valid c.a (rw l.stands refl) ∙ rw (l.stands, l.left) refl in
    record {
      armed = l.stands;
      due = due ∙ last c.c (ticks_in cs) fewer;
      rings = λ k tick h.
          rw l.stands at (due_rings u k c.a l.is_valid tick (due ∙ eq-eqb n 1 (omega arith))).0;
    }
  where
    last : (d m : ℕ) → m < d → eqb (d - m) 1 ≡ eqb (suc m) d
    last d m h = go (eqb (suc m) d) refl
      where
        go : (b : Bool) → eqb (suc m) d ≡ b → eqb (d - m) 1 ≡ b
        go true e = let same = eqb-true (suc m) d e in eq-eqb (d - m) 1 (omega arith)
        go false e = let other : suc m ≢ d = eqb-false (suc m) d e in ne_eqb (d - m) 1 (λ s. other (omega arith))
