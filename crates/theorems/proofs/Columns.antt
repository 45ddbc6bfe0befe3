-- Laws of the columns: what they say of a task once it, or another, is changed, and that two changes change places.
use Prim.Native.Nat.{ℕ, ◌<◌, ◌≤◌}
use mathlib.Core.Path.{◌≡◌, refl, sym, ap, ◌∙◌, subst}
use mathlib.Core.Logic.{◌≢◌}
use mathlib.Core.Bool.{Bool, true, false}
use lib.Dec.{eqb, ltb}
use lib.ListN.{length, length-set}
use lib.Seq.{get_or-set_same, get_or-set_other, set-set, set_comm, set_out}
use borrow.Author.Tests.{eqb-true, eqb-false, ltb-true, ltb-false}
use Rattle.rules.specs.declared.Task.{Task}
use Rattle.rules.specs.declared.Table.{Table}
use Rattle.rules.specs.Numbers.{task_room}
use Rattle.rules.specs.Tables.{task_of, with_task, changed}
use Rattle.rules.specs.Validity.{shaped}
use Rattle.rules.proofs.Bools.{given}

-- the columns of a table of the right shape
pub record Long (t : Table) : Type 0 where
  pub state : length t.state ≡ task_room
  pub arrived : length t.arrived ≡ task_room
  pub list : length t.list ≡ task_room
  pub operator : length t.operator ≡ task_room

pub columns_long : (t : Table) → shaped t ≡ true → Long t
unfolding shaped
columns_long t s =
    let (a, (b, (c, (d, (e, rest))))) = given _ s in
    record { state = eqb-true _ _ b; arrived = eqb-true _ _ c; list = eqb-true _ _ d; operator = eqb-true _ _ e }

module _ (i : ℕ) (r : Task) (t : Table) where
  pub shaped_with : shaped (with_task i r t) ≡ shaped t
  unfolding shaped
  shaped_with = simp length-set

  -- the task itself, and another
  task_same : shaped t ≡ true → i < task_room → task_of (with_task i r t) i ≡ r
  task_same s h k =
      let l = columns_long t s in
      record {
        state = get_or-set_same t.state i r.state 0 (rw l.state h) k;
        arrived = get_or-set_same t.arrived i r.arrived 0 (rw l.arrived h) k;
        list = get_or-set_same t.list i r.list 0 (rw l.list h) k;
        operator = get_or-set_same t.operator i r.operator 0 (rw l.operator h) k;
      }

  pub task_other : (j : ℕ) → j ≢ i → task_of (with_task i r t) j ≡ task_of t j
  task_other j n = simp (
    get_or-set_other t.state i j r.state 0 n,
    get_or-set_other t.arrived i j r.arrived 0 n,
    get_or-set_other t.list i j r.list 0 n,
    get_or-set_other t.operator i j r.operator 0 n,
  )

  -- the last change of one task counts, and changes of two change places
  with_again : (s : Task) → with_task i r (with_task i s t) ≡ with_task i r t
  with_again s = simp set-set

  with_comm : (j : ℕ) (s : Task) → i ≢ j → with_task i r (with_task j s t) ≡ with_task j s (with_task i r t)
  with_comm j s n = simp (
    set_comm t.state j i s.state r.state (λ e. n (sym e)),
    set_comm t.arrived j i s.arrived r.arrived (λ e. n (sym e)),
    set_comm t.list j i s.list r.list (λ e. n (sym e)),
    set_comm t.operator j i s.operator r.operator (λ e. n (sym e)),
  )

module _ (t : Table) (s : shaped t ≡ true) (i : ℕ) (h : i < task_room) where
  pub changed_same : (f : Task → Task) → task_of (changed i f t) i ≡ f (task_of t i)
  changed_same f = task_same i (f (task_of t i)) t s h

  -- what f keeps at a task it keeps at every task
  pub changed_keeps {ℓ} : {A : Type ℓ} (p : Task → A) (f : Task → Task) → ((r : Task) → p (f r) ≡ p r) → (j : ℕ)
      → p (task_of (changed i f t) j) ≡ p (task_of t j)
  changed_keeps p f k j = go (eqb j i) refl
    where
      go : (b : Bool) → eqb j i ≡ b → p (task_of (changed i f t) j) ≡ p (task_of t j)
      go true e = let same = eqb-true j i e in rw same (ap p (changed_same f) ∙ k (task_of t i))
      go false e = ap p (task_other i (f (task_of t i)) t j (eqb-false j i e))

  -- changes that change places at one task change places at any two
  pub changed_comm : (f g : Task → Task) → ((r : Task) → f (g r) ≡ g (f r)) → (j : ℕ)
      → changed i f (changed j g t) ≡ changed j g (changed i f t)
  changed_comm f g k j = go (eqb j i) refl
    where
      go : (b : Bool) → eqb j i ≡ b → changed i f (changed j g t) ≡ changed j g (changed i f t)
      go true e =
          let same = eqb-true j i e in
          rw same
          (ap (λ r. with_task i (f r) (changed i g t)) (changed_same g)
          ∙ with_again i (f (g (task_of t i))) t (g (task_of t i))
          ∙ ap (λ r. with_task i r t) (k (task_of t i))
          ∙ sym (with_again i (g (f (task_of t i))) t (f (task_of t i)))
          ∙ ap (λ r. with_task i (g r) (changed i f t)) (sym (changed_same f)))
      go false e =
          let other : j ≢ i = eqb-false j i e in
          ap (λ r. with_task i (f r) (changed j g t)) (task_other j (g (task_of t j)) t i (λ z. other (sym z)))
          ∙ with_comm i (f (task_of t i)) t j (g (task_of t j)) (λ z. other (sym z))
          ∙ ap (λ r. with_task j (g r) (changed i f t)) (sym (task_other i (f (task_of t i)) t j other))

-- the same for every number: one past the room changes nothing
module _ (t : Table) (s : shaped t ≡ true) (i : ℕ) where
  changed_past : (f : Task → Task) → task_room ≤ i → changed i f t ≡ t
  changed_past f h =
      let l = columns_long t s in
      simp (
        set_out t.state i (f (task_of t i)).state (rw l.state h),
        set_out t.arrived i (f (task_of t i)).arrived (rw l.arrived h),
        set_out t.list i (f (task_of t i)).list (rw l.list h),
        set_out t.operator i (f (task_of t i)).operator (rw l.operator h),
      )

  -- what holds of f's task where it held before holds of each
  pub changed_holds {ℓ} : (P : Task → Type ℓ) (f : Task → Task) → ((r : Task) → P r → P (f r)) → (j : ℕ) → P (task_of t j) → P (task_of (changed i f t) j)
  changed_holds P f k j h = go (ltb i task_room) (eqb j i) refl refl
    where
      go : (b c : Bool) → ltb i task_room ≡ b → eqb j i ≡ c → P (task_of (changed i f t) j)
      go true true e w =
          let same : j ≡ i = eqb-true j i w in
          rw same (rw (changed_same t s i (ltb-true i task_room e) f) (k (task_of t i) (rw same at h)))
      go true false e w = rw (task_other i (f (task_of t i)) t j (eqb-false j i w)) h
      go false c e w = subst (λ u. P (task_of u j)) (sym (changed_past f (ltb-false i task_room e))) h

  -- what f keeps of each task
  pub changed_leaves {ℓ} : {A : Type ℓ} (p : Task → A) (f : Task → Task) → ((r : Task) → p (f r) ≡ p r) → (j : ℕ)
      → p (task_of (changed i f t) j) ≡ p (task_of t j)
  changed_leaves p f k j = go (ltb i task_room) refl
    where
      go : (b : Bool) → ltb i task_room ≡ b → p (task_of (changed i f t) j) ≡ p (task_of t j)
      go true e = changed_keeps t s i (ltb-true i task_room e) p f k j
      go false e = ap (λ u. p (task_of u j)) (changed_past f (ltb-false i task_room e))
