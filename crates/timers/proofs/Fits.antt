-- One timer: each way out of the code is a rule that the timer breaks, and what the code finds of it is the rule of validity.
use Rattle.std.proofs.Common.{◌≡◌, ℕ, ◌%◌, ◌<◌, ◌≤◌, min, Bool, true, false, ◌&&◌, ltb, leb, List, length, get_or, refl, ap, ◌∙◌, mod-eq_of_lt, arith, ltb-false, ltb-true, le-ltb, lt-ltb, eq-eqb, ne_eqb}
use mathlib.Core.Bool.{and-true, and-false}
use lib.ListN.{get_or-eq_default}
use Rattle.rules.specs.declared.Timer.{Timer}
use Rattle.rules.specs.Numbers.{task_room, event_end, tick_end, longest_delay}
use Rattle.rules.specs.Words.{is_zero, all}
use Rattle.rules.specs.Timers.{ahead}
use Rattle.rules.specs.Validity.{timer_right}
use Rattle.rules.proofs.Bools.{same_test}
use Rattle.timers.specs.Fits.{timer_fits}

-- ---- the ways out, and at the end the date decides

module _ (owners state ticks : ℕ) (r : Timer) where
  pub not_armed : (r.armed ≡ 1 → ⊥)
      → (is_zero r.armed && (is_zero r.owner && (is_zero r.event && is_zero r.date))) ≡ timer_fits owners state ticks r
  unfolding timer_fits all
  not_armed n = rw (ne_eqb r.armed 1 n) (simp and-true)

  pub no_owner : r.armed ≡ 1 → owners ≤ r.owner → false ≡ timer_fits owners state ticks r
  unfolding timer_fits all
  no_owner a o = rw (eq-eqb r.armed 1 a, le-ltb r.owner owners o) refl

  pub owner_stopped : r.armed ≡ 1 → r.owner < owners → state ≡ 0 → false ≡ timer_fits owners state ticks r
  unfolding timer_fits all
  owner_stopped a o s = rw (eq-eqb r.armed 1 a, lt-ltb r.owner owners o, s) refl

  pub no_event : r.armed ≡ 1 → r.owner < owners → (state ≡ 0 → ⊥) → event_end ≤ r.event → false ≡ timer_fits owners state ticks r
  unfolding timer_fits all
  no_event a o s e = rw (eq-eqb r.armed 1 a, lt-ltb r.owner owners o, ne_eqb state 0 s, le-ltb r.event event_end e) refl

  -- the type of the date makes one rule true
  pub dated : (left : ℕ) → r.armed ≡ 1 → r.owner < owners → (state ≡ 0 → ⊥) → r.event < event_end → left ≡ ahead r.date ticks
      → r.date < tick_end → (ltb 0 left && leb left longest_delay) ≡ timer_fits owners state ticks r
  unfolding timer_fits all
  dated left a o s e l d =
      rw (l, eq-eqb r.armed 1 a, lt-ltb r.owner owners o, ne_eqb state 0 s, lt-ltb r.event event_end e, lt-ltb r.date tick_end d)
      (simp and-true)

-- ---- the rule of validity

-- the state read at the owner's number modulo the room serves, since an owner past the columns never fits
pub fits_right : (tasks owners ticks : ℕ) (states : List ℕ) (r : Timer) → owners ≡ min tasks task_room → length states ≡ task_room
    → timer_fits owners (get_or states (r.owner % task_room) 0) ticks r ≡ timer_right tasks states ticks r
unfolding timer_fits timer_right all
fits_right tasks owners ticks states r o l = go (ltb r.owner task_room) refl
  where
    go : (b : Bool) → ltb r.owner task_room ≡ b
        → timer_fits owners (get_or states (r.owner % task_room) 0) ticks r ≡ timer_right tasks states ticks r
    go true e =
        let k = ltb-true r.owner task_room e in
        let same : ltb r.owner owners ≡ ltb r.owner tasks =
        same_test (ltb r.owner owners) (ltb r.owner tasks)
        (λ h. let m = ltb-true r.owner owners h in lt-ltb r.owner tasks (omega arith))
        (λ h. let m = ltb-true r.owner tasks h in lt-ltb r.owner owners (omega arith)) in
        rw (same, mod-eq_of_lt k) refl
    go false e =
        let far = ltb-false r.owner task_room e in
        let past : length states ≤ r.owner = omega arith in
        let out : ltb r.owner owners ≡ false = le-ltb r.owner owners (omega arith) in
        rw (out, get_or-eq_default states 0 past, and-false) refl

-- and so does what the code found of one timer
pub judged : (tasks owners ticks : ℕ) (states : List ℕ) (r : Timer) {state : ℕ} {fits : Bool} → owners ≡ min tasks task_room
    → length states ≡ task_room → state ≡ get_or states (r.owner % task_room) 0 → fits ≡ timer_fits owners state ticks r
    → fits ≡ timer_right tasks states ticks r
judged tasks owners ticks states r o l s f = f ∙ ap (λ x. timer_fits owners x ticks r) s ∙ fits_right tasks owners ticks states r o l
