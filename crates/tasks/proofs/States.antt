-- One task: the test without branches is the test by state.
use Rattle.std.proofs.Common.{ℕ, zero, suc, ◌<◌, ◌≡◌, refl, ap, ◌∙◌, Bool, true, false, not, ◌&&◌, ◌||◌, arith, eqb, ltb, leb, eqb-true, ne_eqb, lt-ltb, le-leb, leb-true, ltb-true}
use mathlib.Core.Bool.{or-false, and-true, and-false, false≢true}
use Rattle.rules.specs.Numbers.{priority_end, list_end}
use Rattle.rules.specs.Words.{is_zero}
use Rattle.rules.specs.Events.{met}
use Rattle.rules.specs.Tasks.{stopped, ready, waiting}
use Rattle.rules.proofs.Bools.{and_left, and_right, both, same_test}
use Rattle.rules.specs.Validity.{state_right}
use Rattle.rules.specs.Checks.{row_right}
use Rattle.rules.proofs.ValidTasks.{row_given, row_shown}

module _ (priority arrived list operator : ℕ) (p : priority < priority_end) (a : arrived < list_end) (l : list < list_end) where
  idle : Bool
  idle = is_zero list && is_zero operator

  -- an operator that is 0 is in range
  operator_fits : idle ≡ true → leb operator 1 ≡ true
  unfolding idle
  operator_fits h = le-leb operator 1 (omega (arith, eqb-true operator 0 (and_right (is_zero list) _ h)))

  fits : (state : ℕ) → leb operator 1 ≡ true → (eqb state waiting || idle) ≡ true → state_right state arrived list operator ≡ true
      → row_right priority state arrived list operator ≡ true
  unfolding idle
  fits state o r s =
      row_shown priority state arrived list operator
      (record {
        priority_fits = lt-ltb priority priority_end p;
        arrived_fits = lt-ltb arrived list_end a;
        list_fits = lt-ltb list list_end l;
        operator_fits = o;
        rest = r;
        state_right = s;
      })

  -- below the count
  pub right_is : (state : ℕ) (m : Bool) → m ≡ met operator list arrived
      → (((is_zero list && is_zero operator) && ((eqb state stopped && is_zero arrived) || eqb state ready))
      || (eqb state waiting && (not (is_zero list) && (ltb operator 2 && not m))))
      ≡ row_right priority state arrived list operator
  unfolding idle
  right_is zero m e =
      or-false _
      ∙ ap (λ x. idle && x) (or-false (is_zero arrived))
      ∙ same_test _ (row_right priority stopped arrived list operator)
      (λ h. let i = and_left idle (is_zero arrived) h in fits stopped (operator_fits i) i (and_right idle _ h))
      (λ h. let r = row_given priority stopped arrived list operator h in both r.rest r.state_right)
  right_is (suc zero) m e =
      or-false _
      ∙ and-true idle
      ∙ same_test _ (row_right priority ready arrived list operator)
      (λ h. fits ready (operator_fits h) h refl)
      (λ h. (row_given priority ready arrived list operator h).rest)
  right_is (suc (suc zero)) m e =
      rw (e, and-false)
      (same_test _ (row_right priority waiting arrived list operator)
      (λ h.
      let waits = and_right (not (is_zero list)) _ h in
      let o = le-leb operator 1 (omega (arith, ltb-true operator 2 (and_left _ _ waits))) in
      fits waiting o refl (both (and_left (not (is_zero list)) _ h) (and_right (ltb operator 2) _ waits)))
      (λ h.
      let r = row_given priority waiting arrived list operator h in
      let o = lt-ltb operator 2 (omega (arith, leb-true operator 1 r.operator_fits)) in
      both (and_left (not (is_zero list)) (not (met operator list arrived)) r.state_right) (both o (and_right (not (is_zero list)) _ r.state_right))))
  right_is (suc (suc (suc more))) m e =
      let s = suc (suc (suc more)) in
      rw (ne_eqb s stopped (omega arith), ne_eqb s ready (omega arith), ne_eqb s waiting (omega arith), and-false)
      (same_test false (row_right priority s arrived list operator) (λ h. absurd (false≢true h))
      (λ h. absurd (false≢true (row_given priority s arrived list operator h).state_right)))
