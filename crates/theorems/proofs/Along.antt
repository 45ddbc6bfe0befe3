-- Urgency changes only along the chain of a call: each operation that changes a line or a holder, and the rest.
use Prim.Native.Nat.{ℕ, zero, suc, ◌-◌, ◌<◌}
use mathlib.Core.Path.{◌≡◌, refl, sym, ap, ◌∙◌}
use mathlib.Core.Logic.{◌≢◌, ◌⊎◌, inl, inr, ⊎_elim}
use mathlib.Core.Bool.{Bool, true, false, not, ◌&&◌}
use mathlib.Core.List.{List}
use native.Mathlib.Omega.{arith}
use lib.Dec.{eqb}
use lib.ListN.{get_or, set}
use lib.Seq.{set-get_or}
use borrow.Author.Tests.{eqb-true, eqb-false, ne_eqb, not-true, not-false}
use Rattle.rules.specs.declared.Table.{Table}
use Rattle.rules.specs.declared.Call.{Call}
use Rattle.rules.specs.Numbers.{task_room, nobody, STOP, END, ENTER, EXIT}
use Rattle.rules.specs.Words.{is_zero}
use Rattle.rules.specs.Regions.{held_by, held_by_other, exited}
use Rattle.rules.specs.Urgency.{task_urgency, urgencies}
use Rattle.rules.specs.Circles.{onward, meets}
use Rattle.rules.specs.Tables.{region_of, heir_of}
use Rattle.rules.specs.Refusals.{missing, refusal}
use Rattle.rules.specs.Effects.{hands_on, effect}
use Rattle.rules.specs.Step.{step}
use Rattle.rules.proofs.Bools.{and_left, and_right, or_cases}
use Rattle.rules.proofs.Ways.{onward_none, onward_region}
use Rattle.rules.proofs.ChainsKept.{enter_urgency, leave_urgency, hands_urgency, exit_urgency}
use Rattle.rules.proofs.Urgency.{urgencies_at}
use Rattle.rules.proofs.Effects.{frame_kept, regions_kept, awaits_kept}
use Rattle.rules.proofs.Rules.{Parts}
use Rattle.rules.proofs.Validity.{parts_of}
use Rattle.rules.proofs.Refusals.{Accepted, accepted_facts}
use Rattle.theorems.specs.Urgency.{urgency_of, WaitsThrough}
use Rattle.theorems.specs.Along.{Along, by_enter, by_exit, by_stop, UrgencyOnlyAlong}
use Rattle.theorems.proofs.Regions.{lines_long, region_there}
use Rattle.theorems.proofs.Entering.{lined_at, free_unawaited, heirless_unawaited, heir_waited}
use Rattle.theorems.proofs.Kept.{Caller, caller_of, caller_free, there, refused_same}
use Rattle.theorems.proofs.Urgency.{small_all}
use lib.Seq.{get_or-set_same}

-- a way that comes to a task is a chain
came : (t : Table) (left i j : ℕ) → meets t.awaits t.holder left i j ≡ true → (n : ℕ) × WaitsThrough t n j i
unfolding meets
came t zero i j m = (0, eqb-true j i m)
came t (suc left) i j m =
    ⊎_elim (λ e. (0, eqb-true j i e)) (λ w. on w (came t left i)) (or_cases (eqb j i) _ m)
  where
    on : (not (is_zero (onward t.awaits t.holder j)) && meets t.awaits t.holder left i (onward t.awaits t.holder j - 1)) ≡ true
        → ((k : ℕ) → meets t.awaits t.holder left i k ≡ true → (n : ℕ) × WaitsThrough t n k i)
        → (n : ℕ) × WaitsThrough t n j i
    on w ih = go (get_or t.awaits j 0) refl
      where
        some : onward t.awaits t.holder j ≢ 0
        some = eqb-false _ 0 (not-true _ (and_left _ _ w))

        rest : meets t.awaits t.holder left i (onward t.awaits t.holder j - 1) ≡ true
        rest = and_right (not (is_zero (onward t.awaits t.holder j))) _ w

        go : (a : ℕ) → get_or t.awaits j 0 ≡ a → (n : ℕ) × WaitsThrough t n j i
        go zero e = absurd (some (onward_none t.awaits t.holder j e))
        go (suc r) e =
            let k = onward t.awaits t.holder j - 1 in
            let holds : get_or t.holder r 0 ≡ suc k = omega (arith, some, onward_region t.awaits t.holder j r e) in
            let more = ih k rest in
            (suc more.0, (k, record { region = r; awaited = e; held = holds }, more.1))

module _ (t : Table) (p : Parts t) (i : ℕ) (k : i < task_room) where
  -- the urgency of task i where the lines and holders are these
  abbrev at : List ℕ → List ℕ → ℕ
  at awaits holder = get_or (urgencies t.priority awaits t.opened holder) i 0

  -- as the laws have it
  by_laws : (awaits holder : List ℕ)
      → task_urgency t.priority awaits t.opened holder task_room i ≡ task_urgency t.priority t.awaits t.opened t.holder task_room i
      → at awaits holder ≡ urgency_of t i
  by_laws awaits holder e =
      urgencies_at t.priority awaits t.opened holder i k ∙ e ∙ sym (urgencies_at t.priority t.awaits t.opened t.holder i k)

  -- ---- a region that nobody waits for, or that stays its holder's

  moved : (r v : ℕ) → (v ≡ get_or t.holder r 0) ⊎ ((j : ℕ) → get_or t.awaits j 0 ≢ suc r) → at t.awaits (set t.holder r v) ≡ urgency_of t i
  moved r v (inl same) = ap (at t.awaits) (ap (set t.holder r) same ∙ set-get_or t.holder r 0)
  moved r v (inr none) =
      by_laws t.awaits (set t.holder r v)
      (hands_urgency t.priority t.awaits t.opened t.holder (small_all t p) (lines_long t p.shape) r v i none)

  -- ---- a task joins a line, or leaves one

  joins : (who r h : ℕ) → get_or t.awaits who 0 ≡ 0 → get_or t.holder r 0 ≡ suc h
      → ((n : ℕ) × WaitsThrough t n h i) ⊎ (at (set t.awaits who (suc r)) t.holder ≡ urgency_of t i)
  joins who r h free held = go (meets t.awaits t.holder task_room i h) refl
    where
      go : (b : Bool) → meets t.awaits t.holder task_room i h ≡ b
          → ((n : ℕ) × WaitsThrough t n h i) ⊎ (at (set t.awaits who (suc r)) t.holder ≡ urgency_of t i)
      go true e = inl (came t task_room i h e)
      go false e =
          inr
          (by_laws (set t.awaits who (suc r)) t.holder
          (enter_urgency t.priority t.awaits t.opened t.holder (small_all t p) (lines_long t p.shape) who r h i free held e))

  quits : (who : ℕ) → ((n : ℕ) × WaitsThrough t (suc n) who i) ⊎ (at (set t.awaits who 0) t.holder ≡ urgency_of t i)
  quits who = go (get_or t.awaits who 0) refl
    where
      go : (a : ℕ) → get_or t.awaits who 0 ≡ a → ((n : ℕ) × WaitsThrough t (suc n) who i) ⊎ (at (set t.awaits who 0) t.holder ≡ urgency_of t i)
      go zero e = inr (ap (λ ws. at ws t.holder) (ap (set t.awaits who) (sym e) ∙ set-get_or t.awaits who 0))
      go (suc r) e = last (meets t.awaits t.holder task_room i h) refl
        where
          h : ℕ
          h = get_or t.holder r 0 - 1

          held : get_or t.holder r 0 ≡ suc h
          held = omega (arith, (lined_at t p who r e).occupied)

          last : (b : Bool) → meets t.awaits t.holder task_room i h ≡ b
              → ((n : ℕ) × WaitsThrough t (suc n) who i) ⊎ (at (set t.awaits who 0) t.holder ≡ urgency_of t i)
          last true m = let q = came t task_room i h m in inl (q.0, (h, record { region = r; awaited = e; held = held }, q.1))
          last false m =
              inr
              (by_laws (set t.awaits who 0) t.holder
              (leave_urgency t.priority t.awaits t.opened t.holder (small_all t p) (lines_long t p.shape) who r h i e held m))

  -- ---- a region is handed on

  -- from a task that waits for nothing the way comes nowhere
  stands : (who : ℕ) → get_or t.awaits who 0 ≡ 0 → i ≢ who → meets t.awaits t.holder task_room i who ≡ false
  unfolding meets
  stands who free other = rw (ne_eqb who i (λ e. other (sym e)), onward_none t.awaits t.holder who free) refl

  passes : (who r x : ℕ) → r < t.regions → get_or t.awaits who 0 ≡ 0 → get_or t.holder r 0 ≡ suc who → get_or t.awaits x 0 ≡ suc r
      → ((i ≡ who) ⊎ (i ≡ x)) ⊎ (at (set t.awaits x 0) (set t.holder r (suc x)) ≡ urgency_of t i)
  passes who r x l free held waited = go (eqb i who) refl (eqb i x) refl
    where
      go : (b : Bool) → eqb i who ≡ b → (d : Bool) → eqb i x ≡ d
          → ((i ≡ who) ⊎ (i ≡ x)) ⊎ (at (set t.awaits x 0) (set t.holder r (suc x)) ≡ urgency_of t i)
      go true e d f = inl (inl (eqb-true _ _ e))
      go false e true f = inl (inr (eqb-true _ _ f))
      go false e false f =
          inr
          (by_laws (set t.awaits x 0) (set t.holder r (suc x))
          (exit_urgency t.priority t.awaits t.opened t.holder (small_all t p) (lines_long t p.shape) r who x i (region_there t p r l) waited held
          (stands who free (eqb-false _ _ e)) (eqb-false _ _ f)))

-- ---- by operation

module _ (t : Table) (c : Call) (i : ℕ) (k : i < task_room) (z : is_zero (refusal t c) ≡ true) where
  o : Accepted t c
  o = accepted_facts t c (eqb-true _ 0 z)

  p : Parts t
  p = parts_of t o.is_valid

  abbrev Told : Type 0
  Told = Along t c i ⊎ (urgency_of (effect t c).table i ≡ urgency_of t i)

  enter_told : c.operation ≡ ENTER → Told
  unfolding step effect missing
  enter_told op = go (held_by_other c.caller (region_of t c.a)) refl
    where
      w : Caller t c.caller
      w = caller_of t c.caller (rw op at o.barred) o.not_elected

      h : ℕ
      h = get_or t.holder c.a 0 - 1

      quiet : held_by_other c.caller (region_of t c.a) ≡ false → (suc c.caller ≡ get_or t.holder c.a 0) ⊎ ((j : ℕ) → get_or t.awaits j 0 ≢ suc c.a)
      quiet e = own (is_zero (get_or t.holder c.a 0)) refl
        where
          own : (b : Bool) → is_zero (get_or t.holder c.a 0) ≡ b → (suc c.caller ≡ get_or t.holder c.a 0) ⊎ ((j : ℕ) → get_or t.awaits j 0 ≢ suc c.a)
          own true f = inr (free_unawaited t p c.a (eqb-true _ 0 f))
          own false f = inl (sym (eqb-true _ _ (not-false (held_by c.caller (region_of t c.a)) (rw f at e))))

      go : (b : Bool) → held_by_other c.caller (region_of t c.a) ≡ b → Told
      go true e =
          let held : get_or t.holder c.a 0 ≡ suc h = omega (arith, eqb-false (get_or t.holder c.a 0) 0 (not-true _ (and_left _ _ e))) in
          ⊎_elim (λ q. inl (by_enter op (rw (z, op, e) refl) h q.0 held q.1)) (λ same. inr (rw (op, e) same))
          (joins t p i k c.caller c.a h (caller_free t p c.caller w) held)
      go false e = inr (rw (op, e) (moved t p i k c.a (suc c.caller) (quiet e)))

  exit_told : c.operation ≡ EXIT → Told
  unfolding step effect missing
  exit_told op = go (hands_on c.a t) refl
    where
      w : Caller t c.caller
      w = caller_of t c.caller (rw op at o.barred) o.not_elected

      l : c.a < t.regions
      l = there t.regions c.a (rw op at o.nothing_missing)

      own : get_or t.holder c.a 0 ≡ suc c.caller
      own = eqb-true _ _ (not-false _ (rw op at o.may_exit))

      x : ℕ
      x = heir_of t c.a

      go : (b : Bool) → hands_on c.a t ≡ b → Told
      go true e =
          let waited = heir_waited t p c.caller w.is w.one c.a l e in
          let now = get_or-set_same t.holder c.a (suc x) 0 (region_there t p c.a l) in
          ⊎_elim (λ who. inl (by_exit op x waited (rw (z, op, e) now) who)) (λ same. inr (rw (op, e) same))
          (passes t p i k c.caller c.a x l (caller_free t p c.caller w) own waited)
      go false e = inr (rw (op, e) (moved t p i k c.a (exited (region_of t c.a)).holder (quiet (eqb (get_or t.entries c.a 0) 1) refl)))
        where
          quiet : (b : Bool) → eqb (get_or t.entries c.a 0) 1 ≡ b
              → ((exited (region_of t c.a)).holder ≡ get_or t.holder c.a 0) ⊎ ((j : ℕ) → get_or t.awaits j 0 ≢ suc c.a)
          quiet true f = inr (heirless_unawaited t p c.a (eqb-true _ nobody (not-false (eqb (heir_of t c.a) nobody) (rw f at e))))
          quiet false f = inl (rw f refl)

  stop_told : c.operation ≡ STOP → Told
  unfolding effect
  stop_told op = ⊎_elim (λ q. inl (by_stop op q.0 q.1)) (λ same. inr (rw op same)) (quits t p i k c.a)

  -- the caller is in no line
  end_told : c.operation ≡ END → Told
  unfolding effect
  end_told op =
      let w = caller_of t c.caller (rw op at o.barred) o.not_elected in
      let none : set t.awaits c.caller 0 ≡ t.awaits = ap (set t.awaits c.caller) (sym (caller_free t p c.caller w)) ∙ set-get_or t.awaits c.caller 0 in
      inr (rw op (ap (λ ws. at t p i k ws t.holder) none))

  told : Told
  told = go (eqb c.operation STOP) refl (eqb c.operation END) refl (eqb c.operation ENTER) refl (eqb c.operation EXIT) refl
    where
      go : (a : Bool) → eqb c.operation STOP ≡ a → (b : Bool) → eqb c.operation END ≡ b → (d : Bool) → eqb c.operation ENTER ≡ d
          → (e : Bool) → eqb c.operation EXIT ≡ e → Told
      go true f b g d h e m = stop_told (eqb-true _ _ f)
      go false f true g d h e m = end_told (eqb-true _ _ g)
      go false f false g true h e m = enter_told (eqb-true _ _ h)
      go false f false g false h true m = exit_told (eqb-true _ _ m)
      go false f false g false h false m =
          let frame = frame_kept t c in
          let hs = ap (λ u. u.holder) (regions_kept t c (rw (h, m) refl)) in
          let ws = awaits_kept t c (rw (f, g, h, m) refl) in
          inr (rw (ap (λ u. u.priority) frame, ap (λ u. u.opened) frame, hs, ws) refl)

pub urgency_only_along : UrgencyOnlyAlong
unfolding step
urgency_only_along t c i k changed = go (is_zero (refusal t c)) refl
  where
    go : (b : Bool) → is_zero (refusal t c) ≡ b → Along t c i
    go true z = ⊎_elim (λ along. along) (λ same. absurd (changed (rw z same))) (told t c i k z)
    go false z = absurd (changed (ap (λ u. urgency_of u i) (refused_same t c (eqb-false _ 0 z))))
