-- The tasks past the count, and all of them: both tests of every task are the definition's.
use Rattle.std.proofs.Common.{ℕ, zero, suc, ◌+◌, ◌≤◌, max, ◌≡◌, refl, sym, ap, ◌∙◌, Bool, true, false, cond, ◌&&◌, ◌||◌, List, arith, ltb, leb, get_or, eqb-true, le-ltb, leb-true, leb-false}
use mathlib.Core.Bool.{and-true}
use Rattle.rules.specs.Numbers.{task_room}
use Rattle.rules.specs.Words.{is_zero, all, below, past}
use Rattle.rules.proofs.Bools.{and_left, and_right, and_swap, same_test, ◌&◌, given, shown}
use Rattle.rules.proofs.Counts.{below_again, past_all}
use Rattle.rules.specs.Checks.{row_right, row_zero, row_fits, tasks_right}
use Rattle.rules.proofs.ValidTasks.{row_given}

-- ---- past the count

none_right : (row_right 0 0 0 0 0 && (is_zero 0 && is_zero 0)) ≡ true
unfolding row_right all
none_right = refl

-- a right task that is stopped and has priority 0 is all 0, and the other way round
pub zero_is : (priority state arrived list operator : ℕ)
    → (row_right priority state arrived list operator && (is_zero priority && is_zero state)) ≡ row_zero priority state arrived list operator
unfolding row_zero
zero_is priority state arrived list operator =
    same_test _ (row_zero priority state arrived list operator)
    (λ h.
    let right = and_left (row_right priority state arrived list operator) _ h in
    let none = and_right (row_right priority state arrived list operator) _ h in
    let p = and_left (is_zero priority) (is_zero state) none in
    let z = and_right (is_zero priority) (is_zero state) none in
    let r = row_given priority 0 arrived list operator (rw (← eqb-true state 0 z) right) in
    shown _ (p & z & r.state_right & and_left (is_zero list) _ r.rest & and_right (is_zero list) _ r.rest & tt))
    (λ h.
    let (p, (z, (a, (l, (o, rest))))) = given _ h in
    rw (eqb-true priority 0 p, eqb-true state 0 z, eqb-true arrived 0 a, eqb-true list 0 l, eqb-true operator 0 o) none_right)

-- the loop over those past the count: its start, a turn, and its end, also for a count past the room
module _ (tasks : ℕ) (q : ℕ → Bool) where
  pub rest_start : true ≡ past tasks tasks q
  rest_start = sym (past_all tasks tasks q (λ i l k. absurd (omega arith)))

  pub rest_again : (i : ℕ) {ok here : Bool} → tasks ≤ i → ok ≡ past tasks i q → here ≡ q i → (ok && here) ≡ past tasks (i + 1) q
  rest_again i {ok = ok} {here = here} l k e = below_again i _ ok here k (e ∙ sym (ap (λ b. b || q i) (le-ltb i tasks l)))

  pub rest_end : (i room : ℕ) {ok : Bool} → tasks ≤ i → i ≤ max tasks room → room ≤ i → ok ≡ past tasks i q → ok ≡ past tasks room q
  rest_end i room {ok = ok} l k m e = go (leb tasks room) refl
    where
      go : (b : Bool) → leb tasks room ≡ b → ok ≡ past tasks room q
      go true h =
          let fits = leb-true tasks room h in
          let same : i ≡ room = omega arith in
          e ∙ ap (λ n. past tasks n q) same
      go false h =
          let far = leb-false tasks room h in
          e ∙ past_all tasks i q (λ j o p. absurd (omega arith)) ∙ sym (past_all tasks room q (λ j o p. absurd (omega arith)))

-- ---- all of them

-- two tests of every number are one
below_both : (n : ℕ) (p q r : ℕ → Bool) → ((i : ℕ) → (p i && q i) ≡ r i) → (below n p && below n q) ≡ below n r
unfolding below
below_both zero p q r h = refl
below_both (suc n) p q r h =
    and_swap (below n p) (p n) (below n q) (q n) ∙ ap (λ b. b && (p n && q n)) (below_both n p q r h) ∙ ap (λ b. below n r && b) (h n)

row_is : (b : Bool) (priority state arrived list operator : ℕ)
    → (row_right priority state arrived list operator && (b || (is_zero priority && is_zero state)))
    ≡ cond b (row_right priority state arrived list operator) (row_zero priority state arrived list operator)
row_is true priority state arrived list operator = and-true _
row_is false priority state arrived list operator = zero_is priority state arrived list operator

module _ (tasks : ℕ) (priorities states arrived lists operators : List ℕ) {ok rest : Bool} where
  pub tasks_is : ok ≡ below task_room (λ i. row_right (get_or priorities i 0) (get_or states i 0) (get_or arrived i 0) (get_or lists i 0) (get_or operators i 0))
      → rest ≡ past tasks task_room (λ i. is_zero (get_or priorities i 0) && is_zero (get_or states i 0))
      → (ok && rest) ≡ tasks_right tasks priorities states arrived lists operators
  unfolding tasks_right row_fits
  tasks_is k r = rw (k, r) (below_both task_room _ _ _ (λ i. row_is (ltb i tasks) _ _ _ _ _))
