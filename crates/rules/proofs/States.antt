-- Laws of the columns that the election reads beside the urgencies: the states with those of the tasks that wait for a region, and the holders of closed regions.
use Prim.Native.Nat.{ℕ, ◌<◌}
use mathlib.Core.Path.{◌≡◌, refl, sym, ap, ◌∙◌}
use mathlib.Core.Bool.{Bool, true, false, cond, ◌&&◌}
use mathlib.Core.List.{List}
use lib.Dec.{eqb, ltb}
use lib.ListN.{get_or, length, get_or-eq_default}
use borrow.Author.Tests.{eqb-true, ltb-true, ltb-false}
use Rattle.rules.specs.Numbers.{task_room, region_room}
use Rattle.rules.specs.Words.{is_zero}
use Rattle.rules.specs.Tasks.{ready}
use Rattle.rules.specs.Election.{ready_at}
use Rattle.rules.specs.Urgency.{is_open, closed_holders, state_with, states_with}
use Rattle.rules.proofs.Bools.{and_left, and_right, both}
use Rattle.rules.proofs.Columns.{length_column, column_at}
use Rattle.rules.proofs.Urgency.{states_at, states_past}

-- ---- the states

-- ready is who is stored as ready and waits for no region
pub ready_is : (awaits states : List ℕ) → length states ≡ task_room → (i : ℕ)
    → ready_at (states_with awaits states) i ≡ (is_zero (get_or awaits i 0) && ready_at states i)
ready_is awaits states long i = go (ltb i task_room) refl
  where
    at : (b : Bool) → is_zero (get_or awaits i 0) ≡ b
        → eqb (state_with (get_or awaits i 0) (get_or states i 0)) ready ≡ (is_zero (get_or awaits i 0) && ready_at states i)
    at true e = rw e refl
    at false e = rw e refl

    go : (b : Bool) → ltb i task_room ≡ b → ready_at (states_with awaits states) i ≡ (is_zero (get_or awaits i 0) && ready_at states i)
    go true e = ap (λ s. eqb s ready) (states_at awaits states i (ltb-true i task_room e)) ∙ at (is_zero (get_or awaits i 0)) refl
    go false e =
        let past = ltb-false i task_room e in
        let none : get_or states i 0 ≡ 0 = get_or-eq_default states 0 (rw long past) in
        ap (λ s. eqb s ready) (states_past awaits states i past) ∙ sym (rw none (and_no (is_zero (get_or awaits i 0))))
      where
        and_no : (b : Bool) → (b && false) ≡ false
        and_no true = refl
        and_no false = refl

module _ (awaits states : List ℕ) (long : length states ≡ task_room) (i : ℕ) where
  pub ready_stored : ready_at (states_with awaits states) i ≡ true → ready_at states i ≡ true
  ready_stored h = and_right (is_zero (get_or awaits i 0)) _ (sym (ready_is awaits states long i) ∙ h)

  pub ready_free : ready_at (states_with awaits states) i ≡ true → get_or awaits i 0 ≡ 0
  ready_free h = eqb-true _ 0 (and_left _ (ready_at states i) (sym (ready_is awaits states long i) ∙ h))

  pub ready_shown : is_zero (get_or awaits i 0) ≡ true → ready_at states i ≡ true → ready_at (states_with awaits states) i ≡ true
  ready_shown p q = ready_is awaits states long i ∙ both p q

-- ---- the holders of the closed regions

pub closed_at : (opened holder : List ℕ) (r : ℕ) → r < region_room
    → get_or (closed_holders opened holder) r 0 ≡ cond (is_open (get_or opened r 0)) 0 (get_or holder r 0)
unfolding closed_holders
closed_at opened holder r l = column_at region_room (λ q. cond (is_open (get_or opened q 0)) 0 (get_or holder q 0)) r l

pub length_closed : (opened holder : List ℕ) → length (closed_holders opened holder) ≡ region_room
unfolding closed_holders
length_closed opened holder = length_column region_room (λ q. cond (is_open (get_or opened q 0)) 0 (get_or holder q 0))
