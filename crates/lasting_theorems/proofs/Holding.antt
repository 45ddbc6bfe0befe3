-- What each call makes of a region that a task holds: its own ENTERs and EXITs count it, and every other call leaves it as it is.
use Prim.Native.Nat.{ℕ, suc, ◌-◌, ◌<◌}
use mathlib.Core.Path.{◌≡◌, refl, sym, ap, ◌∙◌}
use mathlib.Core.Logic.{◌≢◌, ⊎_elim}
use mathlib.Core.Bool.{Bool, true, false, cond, ◌&&◌, ◌||◌, true≢false}
use native.Mathlib.Omega.{arith}
use lib.Dec.{eqb, ltb}
use lib.ListN.{get_or, set, get_or-eq_default}
use lib.Seq.{set-get_or}
use borrow.Author.Tests.{eqb-true, eqb-false, eq-eqb, ne_eqb, ltb-true, ltb-false, leb-true, lt-ltb, not-true, not-false}
use Rattle.rules.specs.declared.Table.{Table}
use Rattle.rules.specs.declared.Call.{Call}
use Rattle.rules.specs.Numbers.{region_room, most_entries, nobody, outside, ENTER, EXIT, TICK}
use Rattle.rules.specs.Words.{is_zero, by_operation}
use Rattle.rules.specs.Regions.{held, held_by, held_by_other, entered, exited, handed}
use Rattle.rules.specs.Queues.{no_pair}
use Rattle.rules.specs.Timers.{later}
use Rattle.rules.specs.Election.{election}
use Rattle.rules.specs.Urgency.{is_open, urgencies, closed_holders}
use Rattle.rules.specs.Tables.{region_of, heir_of, with_region, with_elected, states_of, closed_of, election_of, settled}
use Rattle.rules.specs.Validity.{valid}
use Rattle.rules.specs.Refusals.{missing, wrong_state, leaves, inside, closes_circle, stops_holder, reasons, refusal}
use Rattle.rules.specs.Effects.{Effect, plain, suspend, hand_on, hands_on, ticked, nothing, operations, effect}
use Rattle.rules.specs.Step.{step}
use Rattle.rules.proofs.Bools.{◌&◌, and_left, and_right, or_cases, not_intro}
use Rattle.rules.proofs.Entries.{entered_by, regions_long, region_same, region_other}
use Rattle.rules.proofs.Effects.{each_effect, ringing_same}
use Rattle.rules.proofs.Refusals.{Accepted, accepted_facts}
use Rattle.rules.proofs.Rules.{Parts, counts_fit}
use Rattle.rules.proofs.ValidRegions.{entry_fits, holder_fits}
use Rattle.rules.proofs.Validity.{parts_of}
use Rattle.lasting_theorems.specs.Balanced.{enters, exits}
use Rattle.theorems.proofs.Regions.{holder_elected_lem}
use Rattle.theorems.proofs.Entering.{inherits, lined_at}
use Rattle.theorems.proofs.Kept.{numbered}

-- ---- a task that holds a region

-- it is a task, and the region exists
pub record Holder (t : Table) (task r : ℕ) : Type 0 where
  pub inner : task ≢ outside
  pub there : r < t.regions
  pub room : r < region_room

module _ (t : Table) (p : Parts t) (task r : ℕ) (is : get_or t.holder r 0 ≡ suc task) where
  place : r < region_room
  place = go (ltb r region_room) refl
    where
      go : (b : Bool) → ltb r region_room ≡ b → r < region_room
      go true e = ltb-true r region_room e
      go false e =
          let z : get_or t.holder r 0 ≡ 0 = get_or-eq_default t.holder 0 (rw (regions_long t p.shape).0 (ltb-false r region_room e)) in
          absurd (omega arith)

  occupied_fits : (ltb r t.regions && (is_open (get_or t.opened r 0) || eqb (get_or t.holder r 0) (held (closed_of t)))) ≡ true
  occupied_fits =
      ⊎_elim (λ z. let no = eqb-true (get_or t.holder r 0) 0 z in absurd (omega arith)) (λ w. w)
      (or_cases (is_zero (get_or t.holder r 0)) _ (holder_fits t p r place))

  pub holder_of_lem : Holder t task r
  holder_of_lem =
      let few = (counts_fit _ _ _ p.counts).0 in
      let fits = leb-true (get_or t.holder r 0) t.tasks (entry_fits t p r place) in
      record { inner = λ e. omega arith; there = ltb-true _ _ (and_left _ _ occupied_fits); room = place }

  -- the holder of a closed region is elected
  pub closed_elected : is_open (get_or t.opened r 0) ≡ false → t.elected ≡ task
  closed_elected closed =
      let its : eqb (get_or t.holder r 0) (held (closed_of t)) ≡ true = rw closed at (and_right (ltb r t.regions) _ occupied_fits) in
      let same : held (closed_of t) ≡ suc task = sym (eqb-true _ _ its) ∙ is in
      let who = holder_elected_lem t p (not_intro _ (ne_eqb (held (closed_of t)) 0 (omega arith))) in
      omega arith

-- ---- one call

module _ (t : Table) (v : valid t ≡ true) (task r n : ℕ) (is : region_of t r ≡ entered_by task n) where
  h : Holder t task r
  h = holder_of_lem t (parts_of t v) task r (ap (λ x. x.holder) is)

  its_holder : get_or t.holder r 0 ≡ suc task
  its_holder = ap (λ x. x.holder) is

  some : is_zero (get_or t.holder r 0) ≡ false
  some = rw its_holder (ne_eqb (suc task) 0 (λ z. omega arith))

  own : eqb (get_or t.holder r 0) (suc task) ≡ true
  own = eq-eqb _ (suc task) its_holder

  module _ (c : Call) where
    -- the elected task's own ENTER and EXIT are accepted
    module _ (runs : t.elected ≡ task) (by : c.caller ≡ task) (at : c.a ≡ r) where
      mine : eqb task t.elected ≡ true
      mine = eq-eqb _ _ (sym runs)

      inner : eqb task outside ≡ false
      inner = ne_eqb _ _ h.inner

      there : ltb r t.regions ≡ true
      there = lt-ltb r t.regions h.there

      enter_accepted : c.operation ≡ ENTER → n < most_entries → refusal t c ≡ 0
      unfolding refusal reasons missing wrong_state leaves inside closes_circle stops_holder
      enter_accepted o l =
          let more : eqb (get_or t.entries r 0) most_entries ≡ false = rw (ap (λ x. x.entries) is) (ne_eqb n most_entries (omega arith)) in
          simp (v, o, by, at, mine, inner, there, some, own, more)

      exit_accepted : c.operation ≡ EXIT → refusal t c ≡ 0
      unfolding refusal reasons missing wrong_state leaves inside closes_circle stops_holder
      exit_accepted o = simp (v, o, by, at, mine, inner, there, own)

      -- and change that region's count alone: the task is elected still
      alone : (m : ℕ) → (step t c).table ≡ settled (with_region r (entered_by task m) t) → (step t c).table ≡ with_region r (entered_by task m) t
      alone m e =
          let held_same : set t.holder r (suc task) ≡ t.holder = ap (set t.holder r) (sym its_holder) ∙ set-get_or t.holder r 0 in
          let elects : election_of (with_region r (entered_by task m) t) ≡ election_of t =
          ap (λ hs. election (states_of t) (urgencies t.priority t.awaits t.opened hs) (closed_holders t.opened hs)) held_same in
          e ∙ ap (λ who. with_elected who (with_region r (entered_by task m) t)) (elects ∙ sym (parts_of t v).elected)

      pub enter_table : c.operation ≡ ENTER → n < most_entries → (step t c).table ≡ with_region r (entered_by task (suc n)) t
      unfolding step effect
      enter_table o l = alone (suc n) (simp (enter_accepted o l, o, by, at, some, own, ap (λ x. x.entries) is))

      pub exit_table : c.operation ≡ EXIT → (m : ℕ) → m ≢ 0 → n ≡ suc m → (step t c).table ≡ with_region r (entered_by task m) t
      unfolding step effect
      exit_table o m more e =
          let not_last : eqb (get_or t.entries r 0) 1 ≡ false = rw (ap (λ x. x.entries) is) (ne_eqb n 1 (λ z. more (omega arith))) in
          let count : get_or t.entries r 0 - 1 ≡ m = omega (arith, ap (λ x. x.entries) is) in
          alone m (simp (exit_accepted o, o, by, at, not_last, its_holder, count))

      -- but the EXIT of the only entry, which frees the region or hands it on
      pub exit_lets : c.operation ≡ EXIT → n ≡ 1 → held_by task (region_of (step t c).table r) ≡ false
      unfolding step effect
      exit_lets o e = simp (exit_accepted o, o, by, at) (go (hands_on r t) refl)
        where
          last : eqb (get_or t.entries r 0) 1 ≡ true
          last = rw (ap (λ x. x.entries) is, e) refl

          after : Bool → Table
          after b = (cond b (plain (hand_on r t)) (plain (with_region r (exited (region_of t r)) t))).table

          go : (b : Bool) → hands_on r t ≡ b → eqb (get_or (after b).holder r 0) (suc task) ≡ false
          go true hands =
              let x = heir_of t r in
              let heir = inherits t (parts_of t v) r (eqb-false _ nobody (not-true _ (and_right (eqb (get_or t.entries r 0) 1) _ hands))) in
              let other = (lined_at t (parts_of t v) x r (eqb-true _ (suc r) heir.waited)).others in
              ne_eqb _ (suc task)
              (λ same. other (its_holder ∙ sym same ∙ ap (λ y. y.holder) (region_same r (handed x) t (parts_of t v).shape h.room)))
          go false hands =
              ap (held_by task) (region_same r (exited (region_of t r)) t (parts_of t v).shape h.room)
              ∙ rw last (ne_eqb 0 (suc task) (λ z. omega arith))

    -- every other call leaves the region as it is
    abbrev Left : ℕ → Effect → Type 0
    Left k e = Accepted t (numbered k c) → enters task r (numbered k c) ≡ false → exits task r (numbered k c) ≡ false → region_of e.table r ≡ region_of t r

    untouched : {k : ℕ} → Left k (record { table = t; status = 0; given = no_pair })
    untouched o x y = refl

    -- what the caller holds and isn't the task's is another region
    elsewhere : (eqb c.caller task && eqb c.a r) ≡ false → held_by c.caller (region_of t c.a) ≡ true → r ≢ c.a
    elsewhere x held_here e =
        let mine : suc c.caller ≡ suc task = sym (rw (← e) at (eqb-true (get_or t.holder c.a 0) (suc c.caller) held_here)) ∙ its_holder in
        true≢false (simp (eq-eqb c.caller task (omega arith), eq-eqb c.a r (sym e)) at x)

    -- an ENTER by another suspends it, or is of another region
    enter_leaves : Left ENTER (by_operation nothing ENTER operations t c)
    enter_leaves o x y = go (held_by_other c.caller (region_of t c.a)) refl
      where
        go : (b : Bool) → held_by_other c.caller (region_of t c.a) ≡ b
            → region_of (cond b (suspend t c) (plain (with_region c.a (entered c.caller (region_of t c.a)) t))).table r ≡ region_of t r
        go true e = refl
        go false e = region_other c.a (entered c.caller (region_of t c.a)) t r apart
          where
            apart : r ≢ c.a
            apart same =
                let here : is_zero (get_or t.holder c.a 0) ≡ false = rw (← same) some in
                elsewhere x (not-false _ (rw here at e)) same

    -- who exits a region holds it
    exit_leaves : Left EXIT (by_operation nothing EXIT operations t c)
    exit_leaves o x y = go (hands_on c.a t)
      where
        apart : r ≢ c.a
        apart = elsewhere y (not-false _ o.may_exit)

        go : (b : Bool) → region_of (cond b (plain (hand_on c.a t)) (plain (with_region c.a (exited (region_of t c.a)) t))).table r ≡ region_of t r
        go true = region_other c.a (handed (heir_of t c.a)) t r apart
        go false = region_other c.a (exited (region_of t c.a)) t r apart

    tick_leaves : Left TICK (by_operation nothing TICK operations t c)
    unfolding ticked
    tick_leaves o x y = ringing_same (λ u. region_of u r) (λ i g u. refl) (later t.ticks 1) t.timers t

    effect_leaves : Left c.operation (effect t c)
    effect_leaves =
        each_effect t c Left
        (untouched & untouched & untouched & untouched & untouched & untouched & enter_leaves & exit_leaves & untouched & untouched & untouched & untouched & tick_leaves & tt)
        (λ k o x y. refl)

    pub left : enters task r c ≡ false → exits task r c ≡ false → region_of (step t c).table r ≡ region_of t r
    unfolding step
    left x y = go (is_zero (refusal t c)) refl
      where
        go : (b : Bool) → is_zero (refusal t c) ≡ b → region_of (step t c).table r ≡ region_of t r
        go true z = rw z (effect_leaves (accepted_facts t c (eqb-true _ 0 z)) x y)
        go false z = rw z refl

-- ---- what the marks of a call say

pub mark_parts : (operation task r : ℕ) (c : Call) → (eqb c.operation operation && (eqb c.caller task && eqb c.a r)) ≡ true
    → (c.operation ≡ operation) × (c.caller ≡ task) × (c.a ≡ r)
mark_parts operation task r c h =
    let who = and_right (eqb c.operation operation) _ h in
    (eqb-true _ _ (and_left _ _ h), eqb-true _ _ (and_left _ _ who), eqb-true _ _ (and_right (eqb c.caller task) _ who))

-- a task's call is accepted only where the task is elected
pub runs_then : (t : Table) (task : ℕ) (c : Call) → task ≢ outside → c.caller ≡ task → refusal t c ≡ 0 → t.elected ≡ task
runs_then t task c inner by z = go (eqb task t.elected) refl
  where
    go : (b : Bool) → eqb task t.elected ≡ b → t.elected ≡ task
    go true e = sym (eqb-true _ _ e)
    go false e = absurd (true≢false (simp (by, ne_eqb task outside inner, e) at (accepted_facts t c z).not_elected))
