-- What signals from outside do to the tasks: each has its status whatever came before it, and they change places.
use Prim.Native.Nat.{ℕ, ◌<◌, ◌≤◌}
use mathlib.Core.Path.{◌≡◌, refl, ap, ◌∙◌}
use mathlib.Core.Bool.{Bool, true, false, cond, ◌||◌}
use native.Mathlib.Omega.{arith}
use borrow.Author.Tests.{eqb-true}
use Rattle.rules.specs.declared.Table.{Table}
use Rattle.rules.specs.Numbers.{task_room, event_end}
use Rattle.rules.specs.Words.{is_zero}
use Rattle.rules.specs.Tasks.{is_stopped, signalled}
use Rattle.rules.specs.Tables.{task_of, changed}
use Rattle.rules.specs.Validity.{shaped}
use Rattle.rules.specs.Refusals.{absent}
use Rattle.rules.proofs.Bools.{or_right}
use Rattle.theorems.proofs.Tasks.{signalled_comm, signalled_stopped}
use Rattle.theorems.proofs.Columns.{shaped_with, changed_keeps, changed_comm}
use Rattle.theorems.specs.Happenings.{Signal}
use Rattle.theorems.proofs.Kept.{there}

-- event or task doesn't exist, of so many tasks
unfoldable pub bad : ℕ → Signal → Bool
bad n s = absent event_end s.event || absent n s.task

unfoldable pub signal_status : ℕ → Table → Signal → ℕ
signal_status n t s = cond (bad n s) 14 (cond (is_stopped (task_of t s.task)) 15 0)

unfoldable pub signal_table : ℕ → Table → Signal → Table
signal_table n t s = cond (is_zero (signal_status n t s)) (changed s.task (signalled s.event) t) t

module _ (n : ℕ) (few : n ≤ task_room) (t : Table) (shape : shaped t ≡ true) where
  -- a signal that is accepted is for a task
  pub signal_room : (s : Signal) → is_zero (signal_status n t s) ≡ true → s.task < task_room
  unfolding signal_status bad
  signal_room s z = go (bad n s) refl
    where
      go : (b : Bool) → bad n s ≡ b → s.task < task_room
      go true e = let no : ◌≡◌ {A = ℕ} 14 0 = rw e at (eqb-true (signal_status n t s) 0 z) in absurd (omega arith)
      go false e = let l = there n s.task (or_right (absent event_end s.event) _ e) in omega arith

  pub signal_shaped : (s : Signal) → shaped (signal_table n t s) ≡ true
  unfolding signal_table
  signal_shaped s = go (is_zero (signal_status n t s)) refl
    where
      go : (b : Bool) → is_zero (signal_status n t s) ≡ b → shaped (signal_table n t s) ≡ true
      go true z = rw z (shaped_with s.task _ t ∙ shape)
      go false z = rw z shape

  -- a signal changes no other's status
  pub status_same : (s s' : Signal) → signal_status n (signal_table n t s) s' ≡ signal_status n t s'
  unfolding signal_status signal_table
  status_same s s' = go (is_zero (signal_status n t s)) refl
    where
      go : (b : Bool) → is_zero (signal_status n t s) ≡ b → signal_status n (signal_table n t s) s' ≡ signal_status n t s'
      go true z =
          rw z
          (ap (λ x. cond (bad n s') 14 (cond x 15 0))
          (changed_keeps t shape s.task (signal_room s z) is_stopped (signalled s.event) (signalled_stopped s.event) s'.task))
      go false z = rw z

  pub signal_comm : (s s' : Signal) → signal_table n (signal_table n t s) s' ≡ signal_table n (signal_table n t s') s
  unfolding signal_table
  signal_comm s s' = rw (status_same s s', status_same s' s) (go (is_zero (signal_status n t s)) (is_zero (signal_status n t s')) refl refl)
    where
      go : (b b' : Bool) → is_zero (signal_status n t s) ≡ b → is_zero (signal_status n t s') ≡ b'
          → cond (is_zero (signal_status n t s')) (changed s'.task (signalled s'.event) (signal_table n t s)) (signal_table n t s)
          ≡ cond (is_zero (signal_status n t s)) (changed s.task (signalled s.event) (signal_table n t s')) (signal_table n t s')
      go true true z z' =
          simp (z, z')
          (changed_comm t shape s'.task (signal_room s' z') (signalled s'.event) (signalled s.event) (signalled_comm s'.event s.event) s.task)
      go true false z z' = simp (z, z')
      go false true z z' = simp (z, z')
      go false false z z' = simp (z, z')
