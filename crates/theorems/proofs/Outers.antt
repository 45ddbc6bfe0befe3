-- What signals and ticks do to the tasks, the timers and the counter: each has its status whatever came before it, and they change places.
use Prim.Native.Nat.{ℕ, ◌<◌, ◌≤◌}
use mathlib.Core.Path.{◌≡◌, refl, sym, ap, ◌∙◌}
use mathlib.Core.Bool.{Bool, true, false, cond}
use mathlib.Core.List.{List, [], ◌∷◌, map, Permᴰ}
use Rattle.rules.specs.declared.Timer.{Timer}
use Rattle.rules.specs.declared.Table.{Table}
use Rattle.rules.specs.Numbers.{task_room}
use Rattle.rules.specs.Words.{is_zero}
use Rattle.rules.specs.Tasks.{signalled}
use Rattle.rules.specs.Timers.{later, is_due, rung}
use Rattle.rules.specs.Tables.{with_timers, changed}
use Rattle.rules.specs.Validity.{shaped}
use Rattle.rules.specs.Effects.{ringing, ticked}
use Rattle.theorems.proofs.Tasks.{signalled_comm}
use Rattle.theorems.proofs.Columns.{changed_comm}
use Rattle.theorems.specs.Happenings.{Signal, Outer, signal, tick}
use Rattle.theorems.proofs.Timers.{ring, ring_shaped, ringing_stopped, ticked_shaped}
use Rattle.theorems.proofs.Signals.{bad, signal_status, signal_table, signal_room, signal_shaped, status_same, signal_comm}

abbrev pub outer_status : ℕ → Table → Outer → ℕ
outer_status n t (signal s) = signal_status n t s
outer_status n t (tick m) = 0

abbrev pub outer_table : ℕ → Table → Outer → Table
outer_table n t (signal s) = signal_table n t s
outer_table n t (tick m) = ticked t

-- ---- a tick and a signal

-- the timers that are due signal the same tasks behind a signal
ringing_changed : (n : ℕ) (rs : List Timer) (t : Table) → shaped t ≡ true → (i : ℕ) → i < task_room → (e : ℕ)
    → ringing n rs (changed i (signalled e) t) ≡ changed i (signalled e) (ringing n rs t)
unfolding ringing
ringing_changed n [] t shape i h e = refl
ringing_changed n (r ∷ rs) t shape i h e =
    ap (ringing n rs) (go (is_due n r)) ∙ ringing_changed n rs (ring n r t) (ring_shaped n r t ∙ shape) i h e
  where
    go : (b : Bool)
        → cond b (changed r.owner (signalled r.event) (changed i (signalled e) t)) (changed i (signalled e) t)
        ≡ changed i (signalled e) (cond b (changed r.owner (signalled r.event) t) t)
    go true = sym (changed_comm t shape i h (signalled e) (signalled r.event) (signalled_comm e r.event) r.owner)
    go false = refl

module _ (n : ℕ) (few : n ≤ task_room) (t : Table) (shape : shaped t ≡ true) where
  -- a tick changes no signal's status
  tick_status : (s : Signal) → signal_status n (ticked t) s ≡ signal_status n t s
  unfolding signal_status ticked
  tick_status s =
      ap (λ x. cond (bad n s) 14 (cond x 15 0)) (ringing_stopped (later t.ticks 1) t.timers t shape s.task)

  tick_signal : (s : Signal) → ticked (signal_table n t s) ≡ signal_table n (ticked t) s
  unfolding signal_table ticked
  tick_signal s = rw (tick_status s) (go (is_zero (signal_status n t s)) refl)
    where
      m : ℕ
      m = later t.ticks 1

      go : (b : Bool) → is_zero (signal_status n t s) ≡ b
          → ticked (signal_table n t s) ≡ cond (is_zero (signal_status n t s)) (changed s.task (signalled s.event) (ticked t)) (ticked t)
      go true z =
          simp z
          (ap (with_timers m (map (rung m) t.timers)) (ringing_changed m t.timers t shape s.task (signal_room n few t shape s z) s.event))
      go false z = simp z

  -- ---- any two

  pub outer_shaped : (o : Outer) → shaped (outer_table n t o) ≡ true
  outer_shaped (signal s) = signal_shaped n few t shape s
  outer_shaped (tick m) = ticked_shaped t ∙ shape

  -- neither changes the other's status
  pub outer_status_lem : (o p : Outer) → outer_status n (outer_table n t o) p ≡ outer_status n t p
  outer_status_lem (signal s) (signal s') = status_same n few t shape s s'
  outer_status_lem (tick m) (signal s) = tick_status s
  outer_status_lem o (tick m) = refl

  pub outer_comm : (o p : Outer) → outer_table n (outer_table n t o) p ≡ outer_table n (outer_table n t p) o
  outer_comm (signal s) (signal s') = signal_comm n few t shape s s'
  outer_comm (signal s) (tick m) = tick_signal s
  outer_comm (tick m) (signal s) = sym (tick_signal s)
  outer_comm (tick m) (tick m') = refl

-- ---- many

abbrev pub after_outers : ℕ → Table → List Outer → Table
after_outers n t [] = t
after_outers n t (o ∷ os) = after_outers n (outer_table n t o) os

-- their order does not matter
pub outers_permuted : (n : ℕ) → n ≤ task_room → {os os' : List Outer} → Permᴰ os os' → (t : Table) → shaped t ≡ true
    → after_outers n t os ≡ after_outers n t os'
outers_permuted n few Permᴰ.nil t shape = refl
outers_permuted n few (Permᴰ.cons {a = a} {b = b} {l₂ = l₂} e p) t shape =
    outers_permuted n few p (outer_table n t a) (outer_shaped n few t shape a) ∙ ap (λ x. after_outers n (outer_table n t x) l₂) e
outers_permuted n few (Permᴰ.swap {a = a} {b = b} {a' = a'} {b' = b'} {l = l} e e') t shape =
    ap (λ x. after_outers n x l)
    (outer_comm n few t shape a b ∙ ap (λ x. outer_table n (outer_table n t b) x) e ∙ ap (λ x. outer_table n (outer_table n t x) b') e')
outers_permuted n few (Permᴰ.trans p q) t shape = outers_permuted n few p t shape ∙ outers_permuted n few q t shape
