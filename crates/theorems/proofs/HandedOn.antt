-- The line of an open region: what a call makes of a region's holder, and of a task in state 3 that is signalled.
use Prim.Native.Nat.{ℕ, zero, suc, ◌<◌}
use mathlib.Core.Path.{◌≡◌, refl, sym, ap, ◌∙◌}
use mathlib.Core.Logic.{◌≢◌, ◌⊎◌, inl, inr}
use mathlib.Core.Bool.{Bool, true, false, false≢true}
use native.Mathlib.Omega.{arith}
use lib.Dec.{eqb}
use lib.ListN.{get_or, set}
use lib.Seq.{get_or-set_same, get_or-set_other, set-get_or}
use borrow.Author.Tests.{eqb-true, eqb-false, eq-eqb, not-false}
use Rattle.rules.specs.declared.Table.{Table}
use Rattle.rules.specs.declared.Call.{Call}
use Rattle.rules.specs.Numbers.{task_room, event_end, nobody, ENTER, EXIT}
use Rattle.rules.specs.Words.{is_zero}
use Rattle.rules.specs.Tasks.{ready, suspended, woken, signalled}
use Rattle.rules.specs.Regions.{held_by, held_by_other, exited, handed}
use Rattle.rules.specs.Election.{election}
use Rattle.rules.specs.Urgency.{state_with, states_with}
use Rattle.rules.specs.Tables.{task_of, region_of, heir_of, with_elected, changed, states_of, urgencies_of, closed_of, election_of, settled}
use Rattle.rules.specs.Refusals.{absent, missing, refusal}
use Rattle.rules.specs.Effects.{hand_on, hands_on, effect}
use Rattle.rules.specs.Step.{step}
use Rattle.rules.proofs.Bools.{or_right}
use Rattle.rules.proofs.Entries.{region_same}
use Rattle.rules.proofs.Effects.{regions_kept}
use Rattle.rules.proofs.Refusals.{Accepted, accepted_facts}
use Rattle.rules.proofs.Rules.{Parts}
use Rattle.rules.proofs.Urgency.{states_at}
use Rattle.rules.proofs.ValidTasks.{row_right_lem}
use Rattle.rules.proofs.Validity.{parts_of}
use Rattle.theorems.specs.Lines.{HandedTo, HandedOn, AwaitedNotFreed, recorded, SignalRecorded}
use Rattle.theorems.proofs.Rows.{below_room}
use Rattle.theorems.proofs.Regions.{region_room_lem, region_there}
use Rattle.theorems.proofs.Entering.{awaits_room, lined_at, heirless_unawaited, heir, heir_waited, heir_lined, heir_freed}
use Rattle.theorems.proofs.Kept.{Caller, caller_of, there, refused_same}

-- ---- what an accepted call makes of the holder of region r

module _ (t : Table) (p : Parts t) (c : Call) (r : ℕ) where
  abbrev after : ℕ
  after = get_or (effect t c).table.holder r 0

  -- the caller's EXIT of it: nobody waits for it, or it has an heir
  record Leaves : Type 0 where
    operation : c.operation ≡ EXIT
    caller : Caller t c.caller
    region : c.a ≡ r
    exists : r < t.regions
    own : get_or t.holder r 0 ≡ suc c.caller

  record Passes : Type 0 where
    by : Leaves
    hands : hands_on r t ≡ true
    is : (effect t c).table ≡ hand_on r t

  abbrev Outcome : Type 0
  Outcome = (after ≡ get_or t.holder r 0) ⊎ ((get_or t.holder r 0 ≡ 0) ⊎ ((Leaves × (heir_of t r ≡ nobody) × (after ≡ 0)) ⊎ Passes))

  module _ (o : Accepted t c) where
    enter_outcome : c.operation ≡ ENTER → Outcome
    unfolding effect missing
    enter_outcome op = go (held_by_other c.caller (region_of t c.a)) refl (eqb r c.a) refl (is_zero (get_or t.holder r 0)) refl
      where
        hs : ℕ
        hs = get_or (set t.holder c.a (suc c.caller)) r 0

        go : (b : Bool) → held_by_other c.caller (region_of t c.a) ≡ b → (d : Bool) → eqb r c.a ≡ d → (z : Bool) → is_zero (get_or t.holder r 0) ≡ z → Outcome
        go true e d f z g = inl (rw (op, e) refl)
        go false e false f z g = inl (rw (op, e) (get_or-set_other t.holder c.a r (suc c.caller) 0 (eqb-false r c.a f)))
        go false e true f true g = inr (inl (eqb-true _ 0 g))
        go false e true f false g =
            let same = eqb-true r c.a f in
            let l = there t.regions c.a (rw op at o.nothing_missing) in
            let here : is_zero (get_or t.holder c.a 0) ≡ false = rw same at g in
            let mine : get_or t.holder c.a 0 ≡ suc c.caller = eqb-true _ _ (not-false (held_by c.caller (region_of t c.a)) (rw here at e)) in
            inl (rw (op, e, same) (get_or-set_same t.holder c.a (suc c.caller) 0 (region_there t p c.a l) ∙ sym mine))

    exit_outcome : c.operation ≡ EXIT → Outcome
    unfolding effect missing
    exit_outcome op = go (eqb r c.a) refl
      where
        own : get_or t.holder c.a 0 ≡ suc c.caller
        own = eqb-true _ _ (not-false _ (rw op at o.may_exit))

        l : c.a < t.regions
        l = there t.regions c.a (rw op at o.nothing_missing)

        w : Caller t c.caller
        w = caller_of t c.caller (rw op at o.barred) o.not_elected

        leaves : r ≡ c.a → Leaves
        leaves same = record { operation = op; caller = w; region = sym same; exists = rw same l; own = rw same own }

        exited_now : r ≡ c.a → get_or (set t.holder r (exited (region_of t r)).holder) r 0 ≡ (exited (region_of t r)).holder
        exited_now same = get_or-set_same t.holder r (exited (region_of t r)).holder 0 (rw same (region_there t p c.a l))

        here : r ≡ c.a → (b : Bool) → hands_on r t ≡ b → (d : Bool) → eqb (get_or t.entries r 0) 1 ≡ d → Outcome
        here same true e d f = inr (inr (inr (record { by = leaves same; hands = e; is = rw (op, ← same, e) refl })))
        here same false e true f =
            let none : heir_of t r ≡ nobody = eqb-true _ nobody (not-false (eqb (heir_of t r) nobody) (rw f at e)) in
            inr (inr (inl (leaves same, none, rw (op, ← same, e) (exited_now same ∙ rw f refl))))
        here same false e false f = inl (rw (op, ← same, e) (exited_now same ∙ rw f refl))

        apart : r ≢ c.a → (b : Bool) → hands_on c.a t ≡ b → Outcome
        apart other true e = inl (rw (op, e) (get_or-set_other t.holder c.a r (suc (heir_of t c.a)) 0 other))
        apart other false e = inl (rw (op, e) (get_or-set_other t.holder c.a r (exited (region_of t c.a)).holder 0 other))

        go : (d : Bool) → eqb r c.a ≡ d → Outcome
        go true f = here (eqb-true _ _ f) (hands_on r t) refl (eqb (get_or t.entries r 0) 1) refl
        go false f = apart (eqb-false _ _ f) (hands_on c.a t) refl

    outcome : Outcome
    outcome = go (eqb c.operation ENTER) refl (eqb c.operation EXIT) refl
      where
        go : (b : Bool) → eqb c.operation ENTER ≡ b → (d : Bool) → eqb c.operation EXIT ≡ d → Outcome
        go true e d f = enter_outcome (eqb-true _ _ e)
        go false e true f = exit_outcome (eqb-true _ _ f)
        go false e false f = inl (ap (λ h. get_or h.holder r 0) (regions_kept t c (rw (e, f) refl)))

  -- the heir, and what it has then
  module _ (q : Passes) where
    abbrev x : ℕ
    x = heir_of t r

    passed : after ≡ suc x
    passed = ap (λ u. get_or u.holder r 0) q.is ∙ get_or-set_same t.holder r (suc x) 0 (region_there t p r q.by.exists)

    abbrev w : Caller t c.caller
    w = q.by.caller

    holds : region_of (effect t c).table r ≡ handed x
    holds = ap (λ u. region_of u r) q.is ∙ region_same r (handed x) t p.shape (region_room_lem t p r q.by.exists)

    again_ready : get_or (states_of (effect t c).table) x 0 ≡ ready
    again_ready =
        let e = q.by.exists in
        let known = (heir t p c.caller w.is w.one r e q.hands).known in
        let freed = heir_freed t p c.caller w.is w.one r e q.hands in
        let stored : get_or t.state x 0 ≡ ready = eqb-true _ ready (heir_lined t p c.caller w.is w.one r e q.hands).is_ready in
        ap (λ u. get_or (states_of u) x 0) q.is ∙ states_at (set t.awaits x 0) t.state x known ∙ rw (freed, stored) refl

    handed_to : refusal t c ≡ 0 → HandedTo t c r c.caller x
    unfolding step
    handed_to z =
        let e = q.by.exists in
        record {
          operation = q.by.operation;
          caller = refl;
          region = q.by.region;
          waited = heir_waited t p c.caller w.is w.one r e q.hands;
          holds = rw z holds;
          again_ready = rw z again_ready;
          first = λ j f. (heir t p c.caller w.is w.one r e q.hands).first j (awaits_room t p j r f) (eq-eqb _ (suc r) f);
        }

-- after the election the holders are those of the effect
step_holder : (t : Table) (c : Call) (r : ℕ) → is_zero (refusal t c) ≡ true → get_or (step t c).table.holder r 0 ≡ get_or (effect t c).table.holder r 0
unfolding step
step_holder t c r z = rw z refl

pub handed_on_lem : HandedOn
handed_on_lem t c r h x v before now other = go (is_zero (refusal t c)) refl
  where
    p : Parts t
    p = parts_of t v

    go : (b : Bool) → is_zero (refusal t c) ≡ b → HandedTo t c r h x
    go false z =
        let same : get_or (step t c).table.holder r 0 ≡ get_or t.holder r 0 = ap (λ u. get_or u.holder r 0) (refused_same t c (eqb-false _ 0 z)) in
        absurd (other (omega arith))
    go true z = which (outcome t p c r (accepted_facts t c (eqb-true _ 0 z)))
      where
        then : get_or (effect t c).table.holder r 0 ≡ suc x
        then = sym (step_holder t c r z) ∙ now

        which : Outcome t p c r → HandedTo t c r h x
        which (inl same) = absurd (other (omega (arith, then, same, before)))
        which (inr (inl free)) = absurd (omega arith)
        which (inr (inr (inl q))) = absurd (omega (arith, then, q.2))
        which (inr (inr (inr q))) =
            let who : h ≡ c.caller = omega (arith, before, q.by.own) in
            let heir-is : x ≡ heir_of t r = omega (arith, then, passed t p c r q) in
            rw (who, heir-is) (handed_to t p c r q (eqb-true _ 0 z))

pub awaited_not_freed : AwaitedNotFreed
awaited_not_freed t c r j v waits none = go (is_zero (refusal t c)) refl
  where
    p : Parts t
    p = parts_of t v

    some : get_or t.holder r 0 ≢ 0
    some = (lined_at t p j r waits).occupied

    go : (b : Bool) → is_zero (refusal t c) ≡ b → ⊥
    go false z = some (ap (λ u. get_or u.holder r 0) (sym (refused_same t c (eqb-false _ 0 z))) ∙ none)
    go true z = which (outcome t p c r (accepted_facts t c (eqb-true _ 0 z)))
      where
        then : get_or (effect t c).table.holder r 0 ≡ 0
        then = sym (step_holder t c r z) ∙ none

        which : Outcome t p c r → ⊥
        which (inl same) = some (sym same ∙ then)
        which (inr (inl free)) = some free
        which (inr (inr (inl q))) = heirless_unawaited t p r q.1 j waits
        which (inr (inr (inr q))) = absurd (omega (arith, then, passed t p c r q))

-- ---- a signal to a task in state 3

module _ (t : Table) (p : Parts t) (i : ℕ) (l : i < t.tasks) (three : get_or (states_of t) i 0 ≡ suspended) where
  room : i < task_room
  room = below_room t p i l

  -- it waits for a region, and is stored as ready
  stored : get_or t.state i 0 ≡ ready
  stored = go (get_or t.awaits i 0) refl
    where
      is_three : state_with (get_or t.awaits i 0) (get_or t.state i 0) ≡ suspended
      is_three = sym (states_at t.awaits t.state i room) ∙ three

      go : (a : ℕ) → get_or t.awaits i 0 ≡ a → get_or t.state i 0 ≡ ready
      go zero e =
          let no-state : get_or t.state i 0 ≡ 3 = rw e at is_three in
          absurd (false≢true (rw no-state at (row_right_lem t p.tasks i l room).state_right))
      go (suc q) e = eqb-true _ ready (lined_at t p i q e).is_ready

  signalled_recorded : (event : ℕ) → signalled event (task_of t i) ≡ recorded event (task_of t i)
  unfolding signalled woken
  signalled_recorded event = simp stored

  -- nothing that the election reads changes
  states_same : (event : ℕ) → states_of (changed i (recorded event) t) ≡ states_of t
  states_same event = ap (states_with t.awaits) (set-get_or t.state i 0)

  elected_same : (event : ℕ) → election_of (changed i (recorded event) t) ≡ t.elected
  elected_same event = ap (λ s. election s (urgencies_of t) (closed_of t)) (states_same event) ∙ sym p.elected

  only_recorded : (event : ℕ) → settled (changed i (signalled event) t) ≡ changed i (recorded event) t
  only_recorded event =
      ap (λ r. settled (changed i (λ u. r) t)) (signalled_recorded event)
      ∙ ap (λ who. with_elected who (changed i (recorded event) t)) (elected_same event)

pub signal_recorded : SignalRecorded
unfolding step effect missing
signal_recorded t c z op three = (is, ap (λ u. get_or (states_of u) c.b 0) is ∙ ap (λ s. get_or s c.b 0) (states_same t p c.b l three c.a) ∙ three)
  where
    o : Accepted t c
    o = accepted_facts t c z

    p : Parts t
    p = parts_of t o.is_valid

    l : c.b < t.tasks
    l = there t.tasks c.b (or_right (absent event_end c.a) _ (rw op at o.nothing_missing))

    is : (step t c).table ≡ changed c.b (recorded c.a) t
    is = rw (z, op) (only_recorded t p c.b l three c.a)
