-- Who is pushed aside by a call, and the calls behind which the former elected task isn't ready.
use Prim.Native.Nat.{ℕ, suc, ◌<◌}
use mathlib.Core.Path.{◌≡◌, refl, sym, ap, ◌∙◌}
use mathlib.Core.Logic.{◌≢◌, ◌⊎◌, inl, inr}
use mathlib.Core.Bool.{Bool, true, false, cond, not, ◌||◌, false≢true}
use native.Mathlib.Omega.{arith}
use lib.Dec.{eqb}
use lib.ListN.{get_or, length}
use lib.Seq.{get_or-set_same}
use borrow.Author.Tests.{eqb-true, eqb-false, ne_eqb}
use Rattle.rules.specs.declared.Task.{Task}
use Rattle.rules.specs.declared.Table.{Table}
use Rattle.rules.specs.declared.Call.{Call}
use Rattle.rules.specs.Numbers.{task_room, nobody, STOP, END, SIGNAL, WAIT, ENTER, TICK}
use Rattle.rules.specs.Words.{is_zero}
use Rattle.rules.specs.Events.{met}
use Rattle.rules.specs.Tasks.{waiting, as_stopped, waited}
use Rattle.rules.specs.Election.{ready_at}
use Rattle.rules.specs.Regions.{held_by_other, entered}
use Rattle.rules.specs.Tables.{task_of, region_of, with_region, changed, states_of, election_of}
use Rattle.rules.specs.Refusals.{refusal}
use Rattle.rules.specs.Effects.{plain, suspend, hands_on, effect}
use Rattle.rules.specs.Step.{step}
use Rattle.rules.proofs.Bools.{◌&◌, not_intro}
use Rattle.rules.proofs.Election.{displaced_given, unready_undisplaced, same_undisplaced, other_displaced}
use Rattle.rules.proofs.Effects.{either_effect, each_effect}
use Rattle.rules.proofs.Refusals.{Accepted, accepted_facts}
use Rattle.rules.proofs.Rules.{Parts, counts_fit}
use Rattle.rules.proofs.States.{ready_stored, ready_free}
use Rattle.rules.proofs.ValidTasks.{length_states_of}
use Rattle.rules.proofs.Validity.{parts_of}
use Rattle.theorems.specs.Displaced.{displaced, PushedAside, DisplacedAside, StaysUndisplaced, LeavesUndisplaced, Succeeds}
use Rattle.theorems.proofs.Columns.{changed_same}
use Rattle.theorems.proofs.Regions.{lines_long}
use Rattle.theorems.proofs.Rows.{below_room}
use Rattle.theorems.proofs.Kept.{Caller, caller_of, caller_below, effect_keeps}

-- ---- of every call

pub displaced_aside : DisplacedAside
unfolding step
displaced_aside t c = go (is_zero (refusal t c)) refl
  where
    go : (b : Bool) → is_zero (refusal t c) ≡ b → displaced t c ≢ nobody → PushedAside t c
    go true z n =
        let u = (effect t c).table in
        let d = displaced_given t.elected (states_of u) (election_of u) (λ e. n (rw (displaced, z) e)) in
        record { was = rw (displaced, z) d.0; ready = rw (displaced, z) d.1; another = rw (displaced, z) d.2 }
    go false z n = absurd (n (rw (displaced, z) refl))

pub stays_undisplaced : StaysUndisplaced
unfolding step
stays_undisplaced t c = go (is_zero (refusal t c)) refl
  where
    go : (b : Bool) → is_zero (refusal t c) ≡ b → (step t c).table.elected ≡ t.elected → displaced t c ≡ nobody
    go true z e = let u = (effect t c).table in rw (displaced, z) (same_undisplaced t.elected (states_of u) (election_of u) (rw z at e))
    go false z e = rw (displaced, z) refl

pub succeeds : Succeeds
unfolding step
succeeds t c = go (eqb t.elected nobody) (is_zero (refusal t c)) (ready_at (states_of (effect t c).table) t.elected) refl refl refl
  where
    go : (none b still : Bool) → eqb t.elected nobody ≡ none → is_zero (refusal t c) ≡ b → ready_at (states_of (effect t c).table) t.elected ≡ still
        → (step t c).table.elected ≢ t.elected
        → (t.elected ≡ nobody) ⊎ ((ready_at (states_of (step t c).table) t.elected ≡ false) ⊎ (displaced t c ≢ nobody))
    go true b still f z e n = inl (eqb-true _ _ f)
    go false true false f z e n = inr (inl (rw z e))
    go false true true f z e n =
        let u = (effect t c).table in
        let former = other_displaced t.elected (states_of u) (election_of u) (λ same. n (rw z same)) e in
        inr (inr (λ none. eqb-false _ _ f (sym former ∙ rw (displaced, z) at none)))
    go false false still f z e n = absurd (n (rw z refl))

-- ---- the calls behind which their caller isn't ready

module _ (t : Table) (c : Call) (o : Accepted t c) where
  p : Parts t
  p = parts_of t o.is_valid

  -- what is said of a task after it has changed is what the change makes of it
  state_then : (i : ℕ) → i < t.tasks → (f : Task → Task) (s : ℕ) → (f (task_of t i)).state ≡ s → (task_of (changed i f t) i).state ≡ s
  state_then i l f s e = ap (λ r. r.state) (changed_same t p.shape i (omega (arith, (counts_fit _ _ _ p.counts).0)) f) ∙ e

  -- neither SIGNAL nor TICK: the caller is the elected task
  caller : c.operation ≢ SIGNAL → c.operation ≢ TICK → Caller t c.caller
  caller s k = caller_of t c.caller (rw (ne_eqb c.operation SIGNAL s, ne_eqb c.operation TICK k) at o.barred) o.not_elected

  abbrev Gone : Type 0
  Gone = ready_at (states_of (effect t c).table) t.elected ≡ false

  -- only a WAIT and an ENTER have another status than 0
  status_plain : not (eqb c.operation WAIT || eqb c.operation ENTER) ≡ true → (effect t c).status ≡ 0
  status_plain =
      each_effect t c (λ n e. not (eqb n WAIT || eqb n ENTER) ≡ true → e.status ≡ 0)
      ((λ h. refl) & (λ h. refl) & (λ h. refl) & (λ h. refl) & (λ h. absurd (false≢true h)) & (λ h. refl) & (λ h. absurd (false≢true h))
      & (λ h. either_effect (λ e. e.status ≡ 0) (hands_on c.a t) refl refl) & (λ h. refl) & (λ h. refl) & (λ h. refl) & (λ h. refl) & (λ h. refl) & tt)
      (λ n h. refl)

  -- who is stored as another than ready, or waits for a region, isn't ready
  unready : (u : Table) → length u.state ≡ task_room → (i : ℕ) → (ready_at u.state i ≡ false) ⊎ (get_or u.awaits i 0 ≢ 0) → ready_at (states_of u) i ≡ false
  unready u long i why = go (ready_at (states_of u) i) refl why
    where
      go : (b : Bool) → ready_at (states_of u) i ≡ b → (ready_at u.state i ≡ false) ⊎ (get_or u.awaits i 0 ≢ 0) → b ≡ false
      go false e w = refl
      go true e (inl h) = sym (ready_stored u.awaits u.state long i e) ∙ h
      go true e (inr h) = absurd (h (ready_free u.awaits u.state long i e))

  gone_unready : (ready_at (effect t c).table.state t.elected ≡ false) ⊎ (get_or (effect t c).table.awaits t.elected 0 ≢ 0) → Gone
  gone_unready = unready (effect t c).table (length_states_of _ (parts_of _ (effect_keeps t p c o o.is_valid)).shape) t.elected

  gone_stopped : (i : ℕ) → i ≡ t.elected → i < t.tasks → (effect t c).table.state ≡ (changed i as_stopped t).state → Gone
  gone_stopped i is l e = gone_unready (inl (rw (e, ← is) (rw (state_then i l as_stopped 0 refl) refl)))

  gone_end : c.operation ≡ END → Gone
  unfolding effect
  gone_end e =
      let w = caller (omega (arith, e)) (omega (arith, e)) in
      gone_stopped c.caller w.is (caller_below t p c.caller w) (rw e refl)

  gone_stop : c.operation ≡ STOP → c.a ≡ c.caller → Gone
  unfolding effect
  gone_stop e own =
      let w = caller (omega (arith, e)) (omega (arith, e)) in
      gone_stopped c.caller w.is (caller_below t p c.caller w) (rw (e, own) refl)

  gone_wait : c.operation ≡ WAIT → (effect t c).status ≡ 1 → Gone
  unfolding effect waited
  gone_wait e s = go (met c.b c.a (task_of t c.caller).arrived) refl
    where
      w : Caller t c.caller
      w = caller (omega (arith, e)) (omega (arith, e))

      go : (b : Bool) → met c.b c.a (task_of t c.caller).arrived ≡ b → Gone
      go true m = let no : ◌≡◌ {A = ℕ} 0 1 = rw (e, m) at s in absurd (omega arith)
      go false m =
          let now = state_then c.caller (caller_below t p c.caller w) (waited c.a c.b) waiting (rw m refl) in
          gone_unready (inl (rw (e, ← w.is) (rw now refl)))

  -- an ENTER that suspends leaves its caller in a line
  gone_enter : c.operation ≡ ENTER → (effect t c).status ≡ 1 → Gone
  unfolding effect
  gone_enter e s = gone_unready (inr (rw e (go (held_by_other c.caller (region_of t c.a)) (rw e at s))))
    where
      w : Caller t c.caller
      w = caller (omega (arith, e)) (omega (arith, e))

      go : (b : Bool) → (cond b (suspend t c) (plain (with_region c.a (entered c.caller (region_of t c.a)) t))).status ≡ 1
          → get_or (cond b (suspend t c) (plain (with_region c.a (entered c.caller (region_of t c.a)) t))).table.awaits t.elected 0 ≢ 0
      go true h z =
          let room : c.caller < length t.awaits = rw (lines_long t p.shape) (below_room t p c.caller (caller_below t p c.caller w)) in
          absurd (omega (arith, get_or-set_same t.awaits c.caller (suc c.a) 0 room, rw (← w.is) at z))
      go false h z = absurd (omega arith)

pub leaves_undisplaced : LeavesUndisplaced
unfolding step
leaves_undisplaced t c = go (is_zero (refusal t c)) refl
  where
    go : (b : Bool) → is_zero (refusal t c) ≡ b
        → ((step t c).answer.status ≡ 1) ⊎ ((c.operation ≡ END) ⊎ ((c.operation ≡ STOP) × (c.a ≡ c.caller))) → displaced t c ≡ nobody
    go false z l = rw (displaced, z) refl
    go true z l = rw (displaced, z) (unready_undisplaced t.elected _ _ (gone l))
      where
        o : Accepted t c
        o = accepted_facts t c (eqb-true _ 0 z)

        waits : (b d : Bool) → eqb c.operation WAIT ≡ b → eqb c.operation ENTER ≡ d → (effect t c).status ≡ 1 → Gone t c o
        waits true d e f s = gone_wait t c o (eqb-true _ _ e) s
        waits false true e f s = gone_enter t c o (eqb-true _ _ f) s
        waits false false e f s = let no = sym (status_plain t c o (not_intro (eqb c.operation WAIT || eqb c.operation ENTER) (rw (e, f) refl))) ∙ s in absurd (omega arith)

        gone : ((step t c).answer.status ≡ 1) ⊎ ((c.operation ≡ END) ⊎ ((c.operation ≡ STOP) × (c.a ≡ c.caller))) → Gone t c o
        gone (inl s) = waits (eqb c.operation WAIT) (eqb c.operation ENTER) refl refl (rw z at s)
        gone (inr (inl e)) = gone_end t c o e
        gone (inr (inr e)) = gone_stop t c o e.0 e.1
