-- The step computed with less work, and that it is the step: the claims of `Rows`, `OpenRows` and `OpenTables` are computed so.
use Prim.Native.Nat.{ℕ, ◌+◌, ◌-◌}
use mathlib.Core.Path.{◌≡◌, refl, sym, ap, ◌∙◌, fun_ext}
use mathlib.Core.Bool.{Bool, true, false, cond, not, ◌&&◌, ◌||◌}
use mathlib.Core.List.{List, [], ◌∷◌}
use native.Mathlib.Omega.{arith}
use lib.ListN.{get_or, take, drop}
use lib.Seq.{get_or-drop}
use Rattle.rules.specs.declared.Table.{Table}
use Rattle.rules.specs.declared.Call.{Call}
use Rattle.rules.specs.declared.Done.{Done}
use Rattle.rules.specs.Numbers.{task_room, region_room, places, queue_room}
use Rattle.rules.specs.Words.{is_zero, all, every, when, first}
use Rattle.rules.specs.Queues.{first_place, behind}
use Rattle.rules.specs.Validity.{shaped, counts_in_range, priorities_in_range, bounds_in_range, lists_in_range, operators_in_range, holders_in_range, criteria_in_range, zero_past, zero_past_counts, zero_past_lengths, rest_right, states_right, entries_right, one_holder, holder_ready, holder_elected, lengths_right, elected_right, timers_right, marks_in_range, open_holders_right, awaits_right, valid}
use Rattle.rules.specs.Circles.{held_as, onward, ends, no_circle}
use Rattle.rules.specs.Tables.{states_of, closed_of}
use Rattle.rules.specs.Answers.{refused}
use Rattle.rules.specs.Refusals.{reasons, refusal}
use Rattle.rules.specs.Effects.{effect}
use Rattle.rules.specs.Step.{accepted, step}
use Rattle.rules.proofs.Bools.{and_left, and_right, both}
use Rattle.rules.proofs.Counts.{below_all, past_all}
use Rattle.rules.proofs.Lists.{every_at, every_take, every_drop}

-- ---- a quick test that is asked first, where the rule's own follows from it

or_same : (quick own : Bool) → (quick ≡ true → own ≡ true) → (quick || own) ≡ own
or_same true own h = sym (h refl)
or_same false own h = refl

-- ---- a store that is all 0 is 0 behind each queue's elements: no queue's places have to be found in it

unfoldable pub zero_behind : List ℕ → List ℕ → List ℕ → Bool
zero_behind lengths elements criteria = (every is_zero elements && every is_zero criteria) || zero_past_lengths lengths elements criteria

zero_part_lem : (q n : ℕ) (store : List ℕ) → every is_zero store ≡ true → every is_zero (behind q n store) ≡ true
unfolding behind
zero_part_lem q n store h =
    every_drop is_zero (first_place q + n) (take (first_place q + places) store) (every_take is_zero (first_place q + places) store h)

zero_behind_lem : (lengths elements criteria : List ℕ) → zero_behind lengths elements criteria ≡ zero_past_lengths lengths elements criteria
unfolding zero_behind zero_past_lengths
zero_behind_lem lengths elements criteria =
    or_same (every is_zero elements && every is_zero criteria) (zero_past_lengths lengths elements criteria)
    (λ h.
    below_all (λ q. every is_zero (behind q (get_or lengths q 0) elements) && every is_zero (behind q (get_or lengths q 0) criteria)) queue_room
    (λ q l.
    both (zero_part_lem q (get_or lengths q 0) elements (and_left _ _ h))
    (zero_part_lem q (get_or lengths q 0) criteria (and_right (every is_zero elements) _ h))))

-- ---- the rest of an array is 0, gone through once

unfoldable pub zero_rest : ℕ → ℕ → List ℕ → Bool
zero_rest count room entries = every is_zero (drop count entries) || zero_past count room entries

zero_rest_lem : (count room : ℕ) (entries : List ℕ) → zero_rest count room entries ≡ zero_past count room entries
unfolding zero_rest zero_past
zero_rest_lem count room entries =
    or_same (every is_zero (drop count entries)) (zero_past count room entries)
    (λ h.
    past_all count room (λ i. is_zero (get_or entries i 0))
    (λ i l k.
    let at : is_zero (get_or (drop count entries) (i - count) 0) ≡ true = every_at is_zero (drop count entries) (i - count) 0 h refl in
    let place : count + (i - count) ≡ i = omega arith in
    rw (get_or-drop count entries (i - count) 0, place) at at))

unfoldable pub zero_rests : Table → Bool
zero_rests t =
    all (zero_rest t.tasks task_room t.priority
    ∷ zero_rest t.tasks task_room t.state
    ∷ zero_rest t.tasks task_room t.arrived
    ∷ zero_rest t.tasks task_room t.list
    ∷ zero_rest t.tasks task_room t.operator
    ∷ zero_rest t.regions region_room t.holder
    ∷ zero_rest t.regions region_room t.entries
    ∷ zero_rest t.queues queue_room t.bound
    ∷ zero_rest t.queues queue_room t.length
    ∷ zero_rest t.tasks task_room t.awaits
    ∷ zero_rest t.regions region_room t.opened
    ∷ [])

zero_rests_lem : (t : Table) → zero_rests t ≡ zero_past_counts t
unfolding zero_rests zero_past_counts
zero_rests_lem t = simp zero_rest_lem

-- ---- no circle, where what each task waits for is read once

-- the way ends from a task that waits for what this entry names
unfoldable pub way_ends : List ℕ → List ℕ → ℕ → Bool
way_ends awaits holder entry =
    is_zero (held_as awaits holder entry) || ends awaits holder (task_room - 1) (held_as awaits holder entry - 1)

unfoldable pub ways_end : List ℕ → List ℕ → Bool
ways_end awaits holder = every (way_ends awaits holder) awaits || no_circle awaits holder

ways_end_lem : (awaits holder : List ℕ) → ways_end awaits holder ≡ no_circle awaits holder
unfolding ways_end no_circle way_ends onward ends
ways_end_lem awaits holder =
    or_same (every (way_ends awaits holder) awaits) (no_circle awaits holder)
    (λ h. below_all (ends awaits holder task_room) task_room (λ i l. every_at (way_ends awaits holder) awaits i 0 h refl))

-- ---- validity so, and tested once in a call

unfoldable pub quick_valid : Table → Bool
quick_valid t =
    all (shaped t
    ∷ counts_in_range t.tasks t.regions t.queues
    ∷ priorities_in_range t.tasks t.priority
    ∷ bounds_in_range t.queues t.bound
    ∷ lists_in_range t.tasks t.arrived
    ∷ lists_in_range t.tasks t.list
    ∷ operators_in_range t.tasks t.operator
    ∷ holders_in_range t.tasks t.regions t.holder
    ∷ criteria_in_range t.criterion
    ∷ zero_rests t
    ∷ zero_behind t.length t.element t.criterion
    ∷ rest_right t
    ∷ states_right t
    ∷ entries_right t.regions t.holder t.entries
    ∷ one_holder t.regions (closed_of t)
    ∷ holder_ready (states_of t) (closed_of t)
    ∷ holder_elected t.elected (closed_of t)
    ∷ lengths_right t.queues t.bound t.length
    ∷ elected_right t
    ∷ timers_right t.tasks t.state t.ticks t.timers
    ∷ marks_in_range t.regions t.opened
    ∷ open_holders_right t.regions t.state t.opened t.holder
    ∷ ways_end t.awaits t.holder
    ∷ awaits_right t.tasks t.state t.awaits t.opened t.holder
    ∷ [])

quick_valid_lem : (t : Table) → quick_valid t ≡ valid t
unfolding quick_valid valid
quick_valid_lem t = rw (zero_rests_lem t, zero_behind_lem t.length t.element t.criterion, ways_end_lem t.awaits t.holder)

abbrev answered : Table → Call → ℕ → Done
answered t c status = cond (is_zero status) (accepted t.elected (effect t c)) (refused t status)

unfoldable pub quick_step : Table → Call → Done
quick_step t c = answered t c (first (when 10 (not (quick_valid t)) ∷ drop 1 (reasons t c)))

quick_step_lem : (t : Table) (c : Call) → quick_step t c ≡ step t c
unfolding quick_step step refusal reasons
quick_step_lem t c = rw (quick_valid_lem t)

-- what is computed of it holds of the step
pub computed : (claim : (Table → Call → Done) → Bool) → claim quick_step ≡ true → claim step ≡ true
computed claim h = ap claim (fun_ext (λ t. fun_ext (λ c. sym (quick_step_lem t c)))) ∙ h
