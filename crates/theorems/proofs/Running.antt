-- Who runs: after every call, and inside a region.
use Prim.Native.Nat.{ℕ, suc, ◌-◌, ◌<◌}
use mathlib.Core.Path.{◌≡◌, refl, sym, ap, ◌∙◌}
use mathlib.Core.Logic.{◌≢◌, ◌⊎◌, inl, inr}
use mathlib.Core.Bool.{Bool, true, false, cond, not, true≢false, false≢true}
use mathlib.Core.List.{List, [], ◌∷◌}
use native.Mathlib.Omega.{arith}
use lib.Dec.{eqb}
use lib.ListN.{get_or, set, length}
use lib.Seq.{get_or-set_same, get_or-set_other}
use borrow.Author.Tests.{eqb-true, eqb-false, leb-true, not-false}
use Rattle.rules.specs.declared.Table.{Table}
use Rattle.rules.specs.declared.Call.{Call}
use Rattle.rules.specs.Numbers.{task_room, region_room, priority_end, nobody, outside, SIGNAL, EXIT, TICK, ENTER}
use Rattle.rules.specs.Words.{is_zero, by_operation}
use Rattle.rules.specs.Regions.{held, occupied, holder_of, held_by_other, exited}
use Rattle.rules.specs.Timers.{later}
use Rattle.rules.specs.Election.{ready_at, priority_at, best_ready}
use Rattle.rules.specs.Urgency.{closed_holders}
use Rattle.rules.specs.Tables.{region_of, with_region, states_of, urgencies_of, closed_of}
use Rattle.rules.specs.Refusals.{missing, refusal}
use Rattle.rules.specs.Effects.{Effect, plain, hand_on, hands_on, ticked, nothing, operations, effect}
use Rattle.rules.specs.Step.{step}
use Rattle.rules.proofs.Bools.{◌&◌}
use Rattle.theorems.proofs.HeldRegions.{closed_still}
use Rattle.rules.proofs.Election.{best_wins, best_nobody, election_held, election_free}
use Rattle.rules.specs.Checks.{regions_right}
use Rattle.rules.proofs.Entries.{regions_long}
use Rattle.rules.proofs.Urgency.{urgencies_own}
use Rattle.rules.proofs.Rules.{Parts, counts_fit}
use Rattle.rules.proofs.ValidTasks.{elected_runs, elected_below}
use Rattle.rules.proofs.ValidRegions.{held_fits}
use Rattle.rules.proofs.Validity.{parts_of}
use Rattle.rules.proofs.Refusals.{Accepted, accepted_facts}
use Rattle.rules.proofs.Effects.{either_effect, each_effect, ringing_same}
use Rattle.theorems.specs.Running.{Runs, RightOneRuns, OnlyHolder, FreedByExit, HolderStays}
use Rattle.theorems.proofs.Regions.{holder_elected_lem, held_one}
use Rattle.theorems.proofs.Entering.{small, enter_holders, exit_holders, hand_holders}
use Rattle.theorems.proofs.Rows.{below_room}
use Rattle.theorems.proofs.Kept.{Caller, caller_of, numbered, there, valid_kept}

-- ---- a valid table

module _ (t : Table) (p : Parts t) where
  small_urgencies : (i : ℕ) → i < task_room → priority_at (urgencies_of t) i < priority_end
  small_urgencies i k = omega (arith, urgencies_own t.priority t.awaits t.opened t.holder i k, small t p i k)

  free_elected : occupied (closed_of t) ≡ false → t.elected ≡ best_ready (states_of t) (urgencies_of t)
  free_elected h = p.elected ∙ election_free (states_of t) (urgencies_of t) (closed_of t) h

  elected_room : t.elected ≢ nobody → t.elected < task_room
  elected_room n = below_room t p t.elected (elected_below t p n)

  none_ready : t.elected ≡ nobody → (i : ℕ) → i < task_room → ready_at (states_of t) i ≡ false
  none_ready e i k = go (ready_at (states_of t) i) refl
    where
      -- a ready task would be elected, or the closed regions' holder be in its place
      go : (b : Bool) → ready_at (states_of t) i ≡ b → b ≡ false
      go false h = refl
      go true h = free (occupied (closed_of t)) refl
        where
          free : (b : Bool) → occupied (closed_of t) ≡ b → true ≡ false
          free false f =
              absurd (true≢false (sym h ∙ (best_nobody (states_of t) (urgencies_of t) small_urgencies).0 (sym (free_elected f) ∙ e) i k))
          free true f =
              let m = holder_elected_lem t p f in
              absurd (omega (arith, leb-true (held (closed_of t)) t.tasks (held_fits t p), (counts_fit _ _ _ p.counts).0))

  all_stand : ((i : ℕ) → i < task_room → ready_at (states_of t) i ≡ false) → t.elected ≡ nobody
  all_stand h = go (eqb t.elected nobody) refl
    where
      go : (b : Bool) → eqb t.elected nobody ≡ b → t.elected ≡ nobody
      go true e = eqb-true _ _ e
      go false e =
          let n : t.elected ≢ nobody = eqb-false _ _ e in
          absurd (false≢true (sym (h t.elected (elected_room n)) ∙ elected_runs t p n))

  pub runs : Runs t
  runs =
      record {
        holder = holder_elected_lem t p;
        best = λ f n.
            rw (free_elected f)
            (best_wins (states_of t) (urgencies_of t) small_urgencies t.elected (elected_room n, elected_runs t p n));
        none = (none_ready, all_stand);
      }

pub right_one_runs : RightOneRuns
right_one_runs t c z = runs (step t c).table (parts_of _ (valid_kept t c (accepted_facts t c z).is_valid))

-- ---- inside a region

-- no timer touches a region
ticked_closed : (t : Table) → closed_of (ticked t) ≡ closed_of t
unfolding ticked
ticked_closed t = ringing_same closed_of (λ i f u. refl) (later t.ticks 1) t.timers t

pub only_holder : OnlyHolder
only_holder t c h z =
    go (eqb c.caller outside) (eqb c.operation SIGNAL) (eqb c.operation TICK) (eqb c.caller t.elected) refl refl refl refl
  where
    o : Accepted t c
    o = accepted_facts t c z

    go : (b s k e : Bool) → eqb c.caller outside ≡ b → eqb c.operation SIGNAL ≡ s → eqb c.operation TICK ≡ k
        → eqb c.caller t.elected ≡ e
        → (c.caller ≡ holder_of (closed_of t)) ⊎ ((c.caller ≡ outside) × ((c.operation ≡ SIGNAL) ⊎ (c.operation ≡ TICK)))
    go true true k e x y v w = inr (eqb-true _ _ x, inl (eqb-true _ _ y))
    go true false true e x y v w = inr (eqb-true _ _ x, inr (eqb-true _ _ v))
    go true false false e x y v w = absurd (true≢false (simp (x, y, v) at o.barred))
    go false s k true x y v w = inl (eqb-true _ _ w ∙ holder_elected_lem t (parts_of t o.is_valid) h)
    go false s k false x y v w = absurd (true≢false (simp (x, w) at o.not_elected))

module _ (t : Table) (p : Parts t) (c : Call) (h : occupied (closed_of t) ≡ true) where
  -- after ENTER and EXIT a closed region that is occupied still is the caller's
  own : (hs : List ℕ) → Caller t c.caller → regions_right t.regions (suc c.caller) t.opened hs ≡ true
      → occupied (closed_holders t.opened hs) ≡ true → holder_of (closed_holders t.opened hs) ≡ t.elected
  own hs w fit k = go (held_one t.regions t.opened hs (suc c.caller) fit)
    where
      go : (held (closed_holders t.opened hs) ≡ 0) ⊎ (held (closed_holders t.opened hs) ≡ suc c.caller) → holder_of (closed_holders t.opened hs) ≡ t.elected
      go (inl z) = absurd (false≢true (rw z at k))
      go (inr e) = let m : suc c.caller - 1 ≡ c.caller = omega arith in rw (e, m) w.is

  abbrev Stays : ℕ → Effect → Type 0
  Stays n e = Accepted t (numbered n c) → occupied (closed_of e.table) ≡ true → holder_of (closed_of e.table) ≡ t.elected

  untouched : {n : ℕ} → Accepted t (numbered n c) → occupied (closed_of t) ≡ true → holder_of (closed_of t) ≡ t.elected
  untouched o k = sym (holder_elected_lem t p h)

  enter_stays : Stays ENTER (by_operation nothing ENTER operations t c)
  unfolding missing
  enter_stays o =
      either_effect (λ e. occupied (closed_of e.table) ≡ true → holder_of (closed_of e.table) ≡ t.elected)
      (held_by_other c.caller (region_of t c.a))
      (untouched o)
      (let w = caller_of t c.caller o.barred o.not_elected in
      own _ w (enter_holders t p c.caller w.is w.one c.a (there t.regions c.a o.nothing_missing)))

  exit_stays : Stays EXIT (by_operation nothing EXIT operations t c)
  unfolding missing
  exit_stays o = go (hands_on c.a t) refl
    where
      w : Caller t c.caller
      w = caller_of t c.caller o.barred o.not_elected

      l : c.a < t.regions
      l = there t.regions c.a o.nothing_missing

      after : Bool → Table
      after b = (cond b (plain (hand_on c.a t)) (plain (with_region c.a (exited (region_of t c.a)) t))).table

      go : (b : Bool) → hands_on c.a t ≡ b → occupied (closed_of (after b)) ≡ true → holder_of (closed_of (after b)) ≡ t.elected
      go true e = own _ w (hand_holders t p c.caller w.is w.one c.a l e)
      go false e = own _ w (exit_holders t p c.caller w.is w.one c.a l (not-false _ o.may_exit))

  tick_stays : Stays TICK (by_operation nothing TICK operations t c)
  tick_stays o k = ap holder_of (ticked_closed t) ∙ sym (holder_elected_lem t p h)

  effect_stays : Accepted t c → occupied (closed_of (effect t c).table) ≡ true → holder_of (closed_of (effect t c).table) ≡ t.elected
  effect_stays =
      each_effect t c Stays
      (untouched & untouched & untouched & untouched & untouched & untouched & enter_stays & exit_stays & untouched & untouched & untouched & untouched & tick_stays & tt)
      (λ n. untouched)

  stays : occupied (closed_of (step t c).table) ≡ true → (step t c).table.elected ≡ t.elected
  unfolding step
  stays = go (is_zero (refusal t c)) refl
    where
      go : (b : Bool) → is_zero (refusal t c) ≡ b → occupied (closed_of (step t c).table) ≡ true → (step t c).table.elected ≡ t.elected
      go true z =
          rw z
          (λ k. election_held _ _ _ k ∙ effect_stays (accepted_facts t c (eqb-true _ 0 z)) k)
      go false z = rw z (λ k. refl)

pub holder_stays : HolderStays
holder_stays t [] v h i = refl
holder_stays t (c ∷ cs) v h i =
    holder_stays (step t c).table cs (valid_kept t c v) i.0 i.1 ∙ stays t (parts_of t v) c h i.0

-- ---- how it ends

module _ (t : Table) (p : Parts t) (c : Call) (h : occupied (closed_of t) ≡ true) where
  abbrev Ended : ℕ → Effect → Type 0
  Ended n e = Accepted t (numbered n c) → occupied (closed_of e.table) ≡ false → (n ≡ EXIT) × (c.caller ≡ holder_of (closed_of t))

  not_ended : {n : ℕ} → Accepted t (numbered n c) → occupied (closed_of t) ≡ false → (n ≡ EXIT) × (c.caller ≡ holder_of (closed_of t))
  not_ended o k = absurd (true≢false (sym h ∙ k))

  -- an ENTER frees nothing
  entered_still : (i : ℕ) → i < region_room → get_or t.holder i 0 ≢ 0 → get_or (set t.holder c.a (suc c.caller)) i 0 ≢ 0
  entered_still i k some z = go (eqb i c.a) refl
    where
      go : (b : Bool) → eqb i c.a ≡ b → ⊥
      go true e =
          let same = eqb-true i c.a e in
          let long : c.a < length t.holder = omega (arith, (regions_long t p.shape).0) in
          absurd (omega (arith, get_or-set_same t.holder c.a (suc c.caller) 0 long, rw same at z))
      go false e = some (sym (get_or-set_other t.holder c.a i (suc c.caller) 0 (eqb-false i c.a e)) ∙ z)

  enter_occupies : Ended 6 (by_operation nothing ENTER operations t c)
  enter_occupies o =
      either_effect (λ e. occupied (closed_of e.table) ≡ false → (ENTER ≡ EXIT) × (c.caller ≡ holder_of (closed_of t)))
      (held_by_other c.caller (region_of t c.a))
      (not_ended o)
      (λ k.
      let hs = set t.holder c.a (suc c.caller) in
      let none = eqb-true _ 0 (not-false (is_zero (held (closed_holders t.opened hs))) k) in
      not_ended o (ap (λ v. not (is_zero v)) (closed_still t.opened t.holder hs entered_still none)))

  exit_ends : Ended 7 (by_operation nothing EXIT operations t c)
  exit_ends o k = (refl, (caller_of t c.caller o.barred o.not_elected).is ∙ holder_elected_lem t p h)

  tick_occupies : Ended 12 (by_operation nothing TICK operations t c)
  tick_occupies o k = not_ended o (ap occupied (sym (ticked_closed t)) ∙ k)

  ended : Accepted t c → occupied (closed_of (effect t c).table) ≡ false → (c.operation ≡ EXIT) × (c.caller ≡ holder_of (closed_of t))
  ended =
      each_effect t c Ended
      (not_ended & not_ended & not_ended & not_ended & not_ended & not_ended & enter_occupies & exit_ends & not_ended & not_ended & not_ended & not_ended & tick_occupies & tt)
      (λ n. not_ended)

pub freed_by_exit : FreedByExit
unfolding step
freed_by_exit t c v h = go (is_zero (refusal t c)) refl
  where
    go : (b : Bool) → is_zero (refusal t c) ≡ b → occupied (closed_of (step t c).table) ≡ false
        → (c.operation ≡ EXIT) × (c.caller ≡ holder_of (closed_of t))
    go true z = rw z (ended t (parts_of t v) c h (accepted_facts t c (eqb-true _ 0 z)))
    go false z = rw z (λ k. absurd (true≢false (sym h ∙ k)))
