-- Where nobody waits for a region: the urgencies are the priorities, the election is by these and the states as stored, there is no circle, and no heir.
use Rattle.std.proofs.Common.{ℕ, suc, ◌<◌, ◌≡◌, sym, ◌∙◌, ⊎_elim, true, List, arith, le_of_lt, get_or, length, eqb-true}
use Rattle.rules.specs.Numbers.{task_room, priority_end, nobody}
use Rattle.rules.specs.Words.{is_zero}
use Rattle.rules.specs.Election.{lowest, is_best, best_ready, elected_by, elect_by}
use Rattle.rules.specs.Urgency.{nobody_awaits, states_with, urgencies, line, heir}
use Rattle.rules.specs.Checks.{await_right, awaits_fit}
use Rattle.rules.proofs.Bools.{and_left, or_first}
use Rattle.rules.proofs.Counts.{below_at, below_all}
use Rattle.rules.proofs.Election.{lowest_is}
use Rattle.rules.proofs.Heirs.{line_ready}
use Rattle.rules.specs.Circles.{ends, no_circle}
use Rattle.rules.proofs.Ways.{onward_none, ends_here}
use Rattle.rules.proofs.Urgency.{urgencies_quiet, states_quiet}

module _ (priority awaits opened holder : List ℕ) (nobody : nobody_awaits awaits ≡ true) (long : length priority ≡ task_room)
    (small : (i : ℕ) → i < task_room → get_or priority i 0 < priority_end) where
  pub own_urgencies : priority ≡ urgencies priority awaits opened holder
  own_urgencies = sym (urgencies_quiet priority awaits opened holder nobody long (λ i l. le_of_lt (small i l)))

  module _ (state : List ℕ) (states : length state ≡ task_room) where
    pub elected_quiet : (v : ℕ) → elected_by v state priority ≡ elected_by v (states_with awaits state) (urgencies priority awaits opened holder)
    elected_quiet v = rw (states_quiet awaits state nobody states, ← own_urgencies)

    pub elect_quiet : (former v : ℕ) → elect_by former v state priority ≡ elect_by former v (states_with awaits state) (urgencies priority awaits opened holder)
    elect_quiet former v = rw (states_quiet awaits state nobody states, ← own_urgencies)

-- there is no circle
pub no_circle_quiet : (awaits holder : List ℕ) → nobody_awaits awaits ≡ true → no_circle awaits holder ≡ true
unfolding nobody_awaits no_circle
no_circle_quiet awaits holder h =
    below_all (ends awaits holder task_room) task_room
    (λ i l.
    ends_here awaits holder task_room i
    (onward_none awaits holder i (eqb-true (get_or awaits i 0) 0 (below_at (λ j. is_zero (get_or awaits j 0)) task_room i h l))))

-- and whoever waits for nothing waits for what it may
pub awaits_quiet : (tasks : ℕ) (states awaits opened holder : List ℕ) → nobody_awaits awaits ≡ true → awaits_fit tasks states awaits opened holder ≡ true
unfolding awaits_fit await_right nobody_awaits
awaits_quiet tasks states awaits opened holder nobody =
    below_all _ task_room (λ i l. or_first _ _ (below_at (λ j. is_zero (get_or awaits j 0)) task_room i nobody l))

-- and no region has an heir
pub heir_quiet : (priority awaits opened holder : List ℕ) (r : ℕ) → nobody_awaits awaits ≡ true → heir priority awaits opened holder r ≡ nobody
unfolding heir best_ready is_best nobody_awaits
heir_quiet priority awaits opened holder r none =
    ⊎_elim (λ q. q.0)
    (λ q.
    let x : ℕ = lowest task_room (is_best (line awaits r) (urgencies priority awaits opened holder)) in
    let waits = eqb-true (get_or awaits x 0) (suc r) (sym (line_ready awaits r x q.below) ∙ and_left _ _ q.passing) in
    let free = eqb-true (get_or awaits x 0) 0 (below_at (λ j. is_zero (get_or awaits j 0)) task_room x none q.below) in
    absurd (omega arith))
    (lowest_is (is_best (line awaits r) (urgencies priority awaits opened holder)) task_room (omega arith))
