-- A valid table stays valid whatever the call: the thirteen operations one by one, then the step.
use Prim.Native.Nat.{ℕ, suc, ◌-◌, ◌<◌}
use mathlib.Core.Path.{◌≡◌, refl, sym, ap, ◌∙◌, subst}
use mathlib.Core.Logic.{◌≢◌, ◌⊎◌, inl, inr}
use mathlib.Core.Bool.{Bool, true, false, cond, ◌&&◌, true≢false}
use mathlib.Core.List.{[], ◌∷◌, map}
use native.Mathlib.Omega.{arith}
use lib.Dec.{eqb, ltb}
use lib.ListN.{get_or, set, length, length-set, length-map}
use lib.Seq.{get_or-set_same, get_or-set_other}
use borrow.Author.Tests.{eqb-true, eqb-false, eq-eqb, ne_eqb, ltb-true, ltb-false, leb-false, lt-ltb, le-leb, not-false}
use Rattle.rules.specs.declared.Task.{Task}
use Rattle.rules.specs.declared.Table.{Table}
use Rattle.rules.specs.declared.Call.{Call}
use Rattle.rules.specs.Numbers.{store_size, list_end, event_end, criterion_end, timer_room, longest_delay, nobody, outside, START, STOP, END, SIGNAL, WAIT, CLEAR, ENTER, EXIT, SEND, RETRIEVE, ARM, DISARM, TICK}
use Rattle.rules.specs.Words.{is_zero, by_operation}
use Rattle.rules.specs.Tasks.{is_stopped, is_ready, as_started, as_stopped, signalled, waited, as_cleared}
use Rattle.rules.specs.Regions.{held, occupied, held_by_other, entered, exited}
use Rattle.rules.specs.Queues.{place}
use Rattle.rules.specs.Timers.{disarmed}
use Rattle.rules.specs.Election.{ready_at, priority_at}
use Rattle.rules.specs.Urgency.{holds_open}
use Rattle.rules.specs.Tables.{task_of, region_of, bound_of, queue_of, changed, with_region, with_elected, closed_of, settled}
use Rattle.rules.specs.Validity.{shaped, valid}
use Rattle.rules.specs.Refusals.{not_elected, absent, bad_key, bad_delay, stopped_at, missing, wrong_state, leaves, inside, closes_circle, stops_holder, refusal}
use Rattle.rules.specs.Effects.{plain, stopped_table, suspend, hand_on, hands_on, nothing, operations, effect}
use Rattle.rules.specs.Step.{step}
use Rattle.rules.proofs.Bools.{◌&◌, given, or_left, or_right, not_intro}
use Rattle.theorems.proofs.Tasks.{signalled_stopped, signalled_ready}
use Rattle.rules.proofs.Rules.{Parts}
use Rattle.rules.proofs.CirclesKept.{leave_keeps}
use Rattle.rules.proofs.ValidTasks.{row_right_lem, elected_ready, elected_free, elected_below}
use Rattle.rules.proofs.Validity.{parts_of, valid_parts}
use Rattle.rules.proofs.Refusals.{Accepted, accepted_facts}
use Rattle.rules.proofs.Effects.{each_effect}
use Rattle.theorems.specs.Kept.{ValidKept, ValidAfter, RefusedSame, ValidSame}
use Rattle.theorems.proofs.Rows.{Fits, started_fits, stopped_fits, waited_fits, cleared_fits, signalled_fits, waited_awake, below_room, timers_awake, timers_stopped, Used, keep_task}
use Rattle.theorems.proofs.Regions.{holder_elected_lem, lines_long}
use Rattle.theorems.proofs.Entering.{keep_enter, keep_suspend, keep_exit, keep_hand}
use Rattle.theorems.proofs.Queues.{keep_send, keep_retrieve, queue_short}
use Rattle.theorems.proofs.Timers.{keep_arm, keep_disarm, keep_tick}

-- ---- who calls

pub record Caller (t : Table) (who : ℕ) : Type 0 where
  pub is : who ≡ t.elected
  pub one : who ≢ nobody

pub caller_of : (t : Table) (who : ℕ) → (eqb who outside && true) ≡ false → not_elected t.elected who ≡ false → Caller t who
caller_of t who b n = go (eqb who outside) (eqb who t.elected) refl refl
  where
    go : (o e : Bool) → eqb who outside ≡ o → eqb who t.elected ≡ e → Caller t who
    go true e h k = absurd (true≢false (simp h at b))
    go false true h k = record { is = eqb-true _ _ k; one = eqb-false _ _ h }
    go false false h k = absurd (true≢false (simp (h, k) at n))

-- the same call with another operation number
abbrev pub numbered : ℕ → Call → Call
numbered n c = record { caller = c.caller; operation = n; a = c.a; b = c.b; c = c.c }

pub there : (count i : ℕ) → absent count i ≡ false → i < count
there count i h = ltb-true i count (not-false (ltb i count) h)

-- ---- the thirteen operations

module _ (t : Table) (p : Parts t) where
  fit : (i : ℕ) → i < t.tasks → Fits (priority_at t.priority i) (task_of t i)
  fit i l = row_right_lem t p.tasks i l (below_room t p i l)

  caller_ready : (who : ℕ) → Caller t who → ready_at t.state who ≡ true
  caller_ready who w = let n : t.elected ≢ nobody = rw w.is at w.one in rw w.is (elected_ready t p n)

  pub caller_below : (who : ℕ) → Caller t who → who < t.tasks
  caller_below who w = let n : t.elected ≢ nobody = rw w.is at w.one in rw w.is (elected_below t p n)

  -- it waits for no region
  pub caller_free : (who : ℕ) → Caller t who → get_or t.awaits who 0 ≡ 0
  caller_free who w = let n : t.elected ≢ nobody = rw w.is at w.one in rw w.is (elected_free t p n)

  caller_awake : (who : ℕ) → Caller t who → stopped_at t.state who ≡ false
  caller_awake who w = rw (eqb-true (get_or t.state who 0) 1 (caller_ready who w)) refl

  -- one task changed, and not stopped then
  keep_changed : (i : ℕ) (f : Task → Task) (l : i < t.tasks)
      → ((r : Task) → Fits (priority_at t.priority i) r → r.state ≡ (task_of t i).state → Fits (priority_at t.priority i) (f r))
      → (Used t t.awaits i → ready_at t.state i ≡ true → is_ready (f (task_of t i)) ≡ true)
      → is_stopped (f (task_of t i)) ≡ false
      → valid (settled (changed i f t)) ≡ true
  keep_changed i f l k stays n =
      valid_parts _
      (keep_task t p i (f (task_of t i)) l t.awaits (λ j. inr refl) stays refl p.no_circle (k (task_of t i) (fit i l) refl) t.timers refl
      (timers_awake t p i (f (task_of t i)) l n))

  -- one task stopped, which holds no region: it leaves its line
  keep_stopped : (i : ℕ) (l : i < t.tasks) → held (closed_of t) ≢ suc i → holds_open t.opened t.holder i ≡ false → valid (settled (stopped_table i t)) ≡ true
  keep_stopped i l closed Open-none =
      let r = as_stopped (task_of t i) in
      valid_parts _
      (keep_task t p i r l (set t.awaits i 0) (λ j. shorter j (eqb j i) refl) (λ u g. unused u) (length-set t.awaits i 0)
      (leave_keeps t.awaits t.holder (lines_long t p.shape) p.no_circle i)
      (stopped_fits (task_of t i) (fit i l)) (map (disarmed i) t.timers) (length-map t.timers (disarmed i)) (timers_stopped t p i r l))
    where
      gone : get_or (set t.awaits i 0) i 0 ≡ 0
      gone = get_or-set_same t.awaits i 0 0 (rw (lines_long t p.shape) (below_room t p i l))

      shorter : (j : ℕ) (b : Bool) → eqb j i ≡ b → (get_or (set t.awaits i 0) j 0 ≡ 0) ⊎ (get_or (set t.awaits i 0) j 0 ≡ get_or t.awaits j 0)
      shorter j true e = inl (rw (eqb-true j i e) gone)
      shorter j false e = inr (get_or-set_other t.awaits i j 0 0 (eqb-false j i e))

      unused : Used t (set t.awaits i 0) i → false ≡ true
      unused (inl h) = absurd (closed h)
      unused (inr (inl h)) = absurd (true≢false (sym h ∙ Open-none))
      unused (inr (inr h)) = absurd (h gone)

  module _ (c : Call) where
    abbrev Keeps : ℕ → Type 0
    Keeps n = Accepted t (numbered n c) → valid (settled (by_operation nothing n operations t c).table) ≡ true

    start_keeps : Keeps START
    unfolding missing
    start_keeps o =
        let l = there t.tasks c.a o.nothing_missing in
        keep_changed c.a as_started l (λ r k s. started_fits r k) (λ u g. refl) refl

    -- no closed region is occupied where the caller leaves
    leaving : (n : ℕ) → Accepted t (numbered n c) → leaves (numbered n c) ≡ true → held (closed_of t) ≡ 0
    unfolding inside
    leaving n o out = go (is_zero (held (closed_of t))) refl
      where
        go : (b : Bool) → is_zero (held (closed_of t)) ≡ b → held (closed_of t) ≡ 0
        go true e = eqb-true _ 0 e
        go false e = absurd (true≢false (simp (out, e) at o.may_leave))

    -- of a closed region the holder is the caller
    stop_keeps : Keeps STOP
    unfolding missing leaves stops_holder
    stop_keeps o =
        let l = there t.tasks c.a o.nothing_missing in
        keep_stopped c.a l not_itself o.may_stop
      where
        not_itself : held (closed_of t) ≢ suc c.a
        not_itself e =
            let w = caller_of t c.caller o.barred o.not_elected in
            let some : is_zero (held (closed_of t)) ≡ false = rw e (ne_eqb (suc c.a) 0 (λ z. omega arith)) in
            let less : held (closed_of t) - 1 ≡ c.a = omega arith in
            let same : c.a ≡ c.caller = sym less ∙ sym (holder_elected_lem t p (not_intro _ some)) ∙ sym w.is in
            absurd (omega (arith, e, leaving STOP o (eq-eqb c.a c.caller same)))

    end_keeps : Keeps END
    unfolding leaves stops_holder
    end_keeps o =
        let l = caller_below c.caller (caller_of t c.caller o.barred o.not_elected) in
        keep_stopped c.caller l (λ e. absurd (omega (arith, e, leaving END o refl))) o.may_stop

    signal_keeps : Keeps SIGNAL
    unfolding missing wrong_state
    signal_keeps o =
        let l = there t.tasks c.b (or_right (absent event_end c.a) _ o.nothing_missing) in
        let e = there event_end c.a (or_left _ (absent t.tasks c.b) o.nothing_missing) in
        keep_changed c.b (signalled c.a) l (λ r k s. signalled_fits c.a e _ r (rw s o.right_state) k) (λ u g. signalled_ready c.a (task_of t c.b) g)
        (signalled_stopped c.a (task_of t c.b) ∙ o.right_state)

    -- who waits holds no region, closed or open, and is in no line
    wait_keeps : Keeps WAIT
    unfolding missing leaves inside
    wait_keeps o =
        let w = caller_of t c.caller o.barred o.not_elected in
        let l = caller_below c.caller w in
        let some = or_left _ (ltb 65535 c.a) o.nothing_missing in
        let le = ltb-false 65535 c.a (or_right (is_zero c.a) _ o.nothing_missing) in
        let right = le-leb c.b 1 (ltb-false 1 c.b o.operator_fits) in
        keep_changed c.caller (waited c.a c.b) l (λ r k s. waited_fits r k c.a c.b some (lt-ltb c.a list_end (omega arith)) right)
        (λ u g. absurd (unused w u))
        (waited_awake c.a c.b (task_of t c.caller) (caller_awake c.caller w))
      where
        unused : Caller t c.caller → Used t t.awaits c.caller → ⊥
        unused w (inl h) = absurd (omega (arith, h, leaving WAIT o refl))
        unused w (inr (inl h)) = true≢false (sym h ∙ or_right (occupied (closed_of t)) _ o.may_leave)
        unused w (inr (inr h)) = h (caller_free c.caller w)

    clear_keeps : Keeps CLEAR
    clear_keeps o =
        let w = caller_of t c.caller o.barred o.not_elected in
        let l = caller_below c.caller w in
        keep_changed c.caller (as_cleared c.a) l (λ r k s. cleared_fits r k c.a (rw s (caller_ready c.caller w))) (λ u g. g) (caller_awake c.caller w)

    enter_keeps : Keeps ENTER
    unfolding missing leaves inside closes_circle
    enter_keeps o = go (held_by_other c.caller (region_of t c.a)) refl
      where
        w : Caller t c.caller
        w = caller_of t c.caller o.barred o.not_elected

        l : c.a < t.regions
        l = there t.regions c.a o.nothing_missing

        go : (b : Bool) → held_by_other c.caller (region_of t c.a) ≡ b
            → valid (settled (cond b (suspend t c) (plain (with_region c.a (entered c.caller (region_of t c.a)) t))).table) ≡ true
        go true e =
            let free : held (closed_of t) ≡ 0 = eqb-true _ 0 (not-false _ (or_left _ false (rw e at o.may_leave))) in
            valid_parts _ (keep_suspend t p c.caller w.is w.one c.a l e free (rw e at o.no_circle))
        go false e = valid_parts _ (keep_enter t p c.caller w.is w.one c.a l e o.may_enter)

    exit_keeps : Keeps EXIT
    unfolding missing
    exit_keeps o = go (hands_on c.a t) refl
      where
        w : Caller t c.caller
        w = caller_of t c.caller o.barred o.not_elected

        l : c.a < t.regions
        l = there t.regions c.a o.nothing_missing

        go : (b : Bool) → hands_on c.a t ≡ b
            → valid (settled (cond b (plain (hand_on c.a t)) (plain (with_region c.a (exited (region_of t c.a)) t))).table) ≡ true
        go true e = valid_parts _ (keep_hand t p c.caller w.is w.one c.a l e)
        go false e = valid_parts _ (keep_exit t p c.caller w.is w.one c.a l (not-false _ o.may_exit) e)

    send_keeps : Keeps SEND
    unfolding missing
    send_keeps o =
        let l = there t.queues c.a (or_left _ (absent criterion_end c.c) o.nothing_missing) in
        let small = there criterion_end c.c (or_right (absent t.queues c.a) _ o.nothing_missing) in
        valid_parts _ (keep_send t p c.a l c.b c.c (leb-false (bound_of t c.a) (length (queue_of t c.a)) o.not_full) (lt-ltb c.c criterion_end small))

    retrieve_keeps : Keeps RETRIEVE
    unfolding missing
    retrieve_keeps o =
        let l = there t.queues c.a (or_left _ (bad_key c.c) o.nothing_missing) in
        valid_parts _ (keep_retrieve t p c.a l (place c.c (queue_of t c.a)) (queue_short t p c.a l))

    arm_keeps : Keeps ARM
    unfolding missing
    arm_keeps o =
        let w = caller_of t c.caller o.barred o.not_elected in
        let behind = or_right (absent timer_room c.a) _ o.nothing_missing in
        let e = there event_end c.b (or_left _ (bad_delay c.c) behind) in
        let delay = or_right (absent event_end c.b) _ behind in
        let some : c.c ≢ 0 = eqb-false c.c 0 (or_left _ (ltb longest_delay c.c) delay) in
        let most = ltb-false longest_delay c.c (or_right (is_zero c.c) _ delay) in
        valid_parts _ (keep_arm t p c.a c.caller c.b c.c (caller_below c.caller w) (caller_awake c.caller w) e (omega arith) most)

    disarm_keeps : Keeps DISARM
    disarm_keeps o = valid_parts _ (keep_disarm t p c.a c.caller)

    tick_keeps : Keeps TICK
    tick_keeps o = valid_parts _ (keep_tick t p)

    pub effect_keeps : Accepted t c → valid t ≡ true → valid (settled (effect t c).table) ≡ true
    effect_keeps o v =
        each_effect t c (λ n e. Accepted t (numbered n c) → valid (settled e.table) ≡ true)
        (start_keeps & stop_keeps & end_keeps & signal_keeps & wait_keeps & clear_keeps & enter_keeps & exit_keeps & send_keeps & retrieve_keeps
        & arm_keeps & disarm_keeps & tick_keeps & tt)
        (λ n a. subst (λ u. valid u ≡ true) (ap (λ e. with_elected e t) p.elected) v)
        o

pub valid_kept : ValidKept
unfolding step
valid_kept t c v = go (is_zero (refusal t c)) refl
  where
    go : (b : Bool) → is_zero (refusal t c) ≡ b → valid (step t c).table ≡ true
    go true z = rw z (effect_keeps t (parts_of t v) c (accepted_facts t c (eqb-true _ 0 z)) v)
    go false z = rw z v

pub valid_after : ValidAfter
valid_after t [] v = v
valid_after t (c ∷ cs) v = valid_after (step t c).table cs (valid_kept t c v)

pub refused_same : RefusedSame
unfolding step
refused_same t c n = rw (ne_eqb (refusal t c) 0 n)

pub valid_same : ValidSame
valid_same t c = go (valid t) refl
  where
    go : (b : Bool) → valid t ≡ b → valid (step t c).table ≡ valid t
    go true v = valid_kept t c v ∙ sym v
    go false v = ap valid (refused_same t c (λ z. absurd (true≢false (sym (accepted_facts t c z).is_valid ∙ v))))

-- the store keeps its size: after an accepted call by validity, after a refused one since nothing changes
pub store_kept : (t : Table) (c : Call) → (length t.element ≡ store_size) × (length t.criterion ≡ store_size)
    → (length (step t c).table.element ≡ store_size) × (length (step t c).table.criterion ≡ store_size)
unfolding shaped
store_kept t c h = go (is_zero (refusal t c)) refl
  where
    go : (b : Bool) → is_zero (refusal t c) ≡ b
        → (length (step t c).table.element ≡ store_size) × (length (step t c).table.criterion ≡ store_size)
    go true z =
        let v = valid_kept t c (accepted_facts t c (eqb-true _ 0 z)).is_valid in
        let e = given _ (parts_of (step t c).table v).shape in
        (eqb-true _ _ e.1.1.1.1.1.1.1.1.1.0, eqb-true _ _ e.1.1.1.1.1.1.1.1.1.1.0)
    go false z = rw (refused_same t c (eqb-false _ 0 z)) h
