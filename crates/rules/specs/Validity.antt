-- "A table is valid when all of these hold": one definition for each rule of document 01's list, joined in its order.
use Rattle.std.specs.Prelude.{ℕ, zero, suc, ◌-◌, Bool, true, false, cond, not, ◌&&◌, ◌||◌, List, [], ◌∷◌, ltb, eqb, leb, get_or, length}
use Rattle.rules.specs.declared.Timer.{Timer}
use Rattle.rules.specs.declared.Table.{Table}
use Rattle.rules.specs.Numbers.{task_room, priority_end, list_end, region_room, most_entries, queue_room, places, store_size, criterion_end, event_end, timer_room, tick_end, longest_delay}
use Rattle.rules.specs.Words.{is_zero, all, every, below, within, past, names}
use Rattle.rules.specs.Events.{met}
use Rattle.rules.specs.Tasks.{stopped, ready, is_waiting}
use Rattle.rules.specs.Regions.{held, occupied, holder_of}
use Rattle.rules.specs.Queues.{behind}
use Rattle.rules.specs.Timers.{ahead, is_armed}
use Rattle.rules.specs.Election.{ready_at}
use Rattle.rules.specs.Urgency.{is_open}
use Rattle.rules.specs.Circles.{no_circle}
use Rattle.rules.specs.Tables.{task_of, states_of, closed_of, election_of}

-- the arrays are as long as their types say: a definition sees an array as a list
unfoldable pub shaped : Table → Bool
shaped t =
    all (eqb (length t.priority) task_room
    ∷ eqb (length t.state) task_room
    ∷ eqb (length t.arrived) task_room
    ∷ eqb (length t.list) task_room
    ∷ eqb (length t.operator) task_room
    ∷ eqb (length t.holder) region_room
    ∷ eqb (length t.entries) region_room
    ∷ eqb (length t.bound) queue_room
    ∷ eqb (length t.length) queue_room
    ∷ eqb (length t.element) store_size
    ∷ eqb (length t.criterion) store_size
    ∷ eqb (length t.timers) timer_room
    ∷ eqb (length t.awaits) task_room
    ∷ eqb (length t.opened) region_room
    ∷ [])

-- ---- "Counts, priorities, bounds, event lists, operators, holders and stored criteria are in range."

-- "Tasks 1 to 32", since T-07 1 to 64; "Regions 0 to 16", "Queues 0 to 8"
unfoldable pub counts_in_range : ℕ → ℕ → ℕ → Bool
counts_in_range tasks regions queues =
    all (ltb 0 tasks ∷ leb tasks task_room ∷ leb regions region_room ∷ leb queues queue_room ∷ [])

-- "Priority 0 to 255"
unfoldable pub priorities_in_range : ℕ → List ℕ → Bool
priorities_in_range tasks priorities = within tasks task_room (λ i. ltb (get_or priorities i 0) priority_end)

-- "a bound of 1 to 64 elements"
abbrev pub bound_in_range : ℕ → Bool
bound_in_range bound = ltb 0 bound && leb bound places

unfoldable pub bounds_in_range : ℕ → List ℕ → Bool
bounds_in_range queues bounds = within queues queue_room (λ q. bound_in_range (get_or bounds q 0))

-- the arrived events, and the lists waited for
unfoldable pub lists_in_range : ℕ → List ℕ → Bool
lists_in_range tasks lists = within tasks task_room (λ i. ltb (get_or lists i 0) list_end)

-- "0 all, 1 any"
unfoldable pub operators_in_range : ℕ → List ℕ → Bool
operators_in_range tasks operators = within tasks task_room (λ i. leb (get_or operators i 0) 1)

-- free, or a task's number plus 1
unfoldable pub holders_in_range : ℕ → ℕ → List ℕ → Bool
holders_in_range tasks regions holders = within regions region_room (λ r. leb (get_or holders r 0) tasks)

-- "00 closed or 01 open"
abbrev pub mark_in_range : ℕ → Bool
mark_in_range mark = leb mark 1

unfoldable pub marks_in_range : ℕ → List ℕ → Bool
marks_in_range regions opened = within regions region_room (λ r. mark_in_range (get_or opened r 0))

-- "a criterion 0 to 15"
abbrev pub criterion_in_range : ℕ → Bool
criterion_in_range c = ltb c criterion_end

unfoldable pub criteria_in_range : List ℕ → Bool
criteria_in_range criteria = every criterion_in_range criteria

-- ---- "Everything past a count or past a queue's length is 0."

unfoldable pub zero_past : ℕ → ℕ → List ℕ → Bool
zero_past count room entries = past count room (λ i. is_zero (get_or entries i 0))

unfoldable pub zero_past_counts : Table → Bool
zero_past_counts t =
    all (zero_past t.tasks task_room t.priority
    ∷ zero_past t.tasks task_room t.state
    ∷ zero_past t.tasks task_room t.arrived
    ∷ zero_past t.tasks task_room t.list
    ∷ zero_past t.tasks task_room t.operator
    ∷ zero_past t.regions region_room t.holder
    ∷ zero_past t.regions region_room t.entries
    ∷ zero_past t.queues queue_room t.bound
    ∷ zero_past t.queues queue_room t.length
    ∷ zero_past t.tasks task_room t.awaits
    ∷ zero_past t.regions region_room t.opened
    ∷ [])

unfoldable pub zero_past_lengths : List ℕ → List ℕ → List ℕ → Bool
zero_past_lengths lengths elements criteria =
    below queue_room
    (λ q. every is_zero (behind q (get_or lengths q 0) elements) && every is_zero (behind q (get_or lengths q 0) criteria))

-- ---- "Where nothing is waited for, list and operator are 0."

unfoldable pub rest_right : Table → Bool
rest_right t =
    within t.tasks task_room
    (λ i. is_waiting (task_of t i) || (is_zero (task_of t i).list && is_zero (task_of t i).operator))

-- ---- "A task is stopped, ready or waiting."

-- "Stopped: no event arrived, nothing waited for. Ready: nothing waited for. Waiting: a list that isn't empty, an operator, and a condition
-- not yet met." What is not waited for is 0 by the rule above, and an operator is in range by the first.
abbrev pub state_right : ℕ → ℕ → ℕ → ℕ → Bool
state_right zero arrived list operator = is_zero arrived
state_right (suc zero) arrived list operator = true
state_right (suc (suc zero)) arrived list operator = not (is_zero list) && not (met operator list arrived)
state_right (suc (suc (suc more))) arrived list operator = false

unfoldable pub states_right : Table → Bool
states_right t =
    within t.tasks task_room
    (λ i. state_right (task_of t i).state (task_of t i).arrived (task_of t i).list (task_of t i).operator)

-- ---- "A region is free or has one holder. All occupied regions have the same holder, which is ready and is the elected task." Since T-09
-- these rules "speak of closed regions only": `holders` are the closed regions' below, and 3 is no ready state.

-- "A region counts its entries, 1 to 255"; "a free region has count 0"
abbrev pub entries_fit : ℕ → ℕ → Bool
entries_fit holder entries = cond (is_zero holder) (is_zero entries) (ltb 0 entries && leb entries most_entries)

unfoldable pub entries_right : ℕ → List ℕ → List ℕ → Bool
entries_right regions holders entries = within regions region_room (λ r. entries_fit (get_or holders r 0) (get_or entries r 0))

unfoldable pub one_holder : ℕ → List ℕ → Bool
one_holder regions holders =
    within regions region_room (λ r. is_zero (get_or holders r 0) || eqb (get_or holders r 0) (held holders))

unfoldable pub holder_ready : List ℕ → List ℕ → Bool
holder_ready states holders = not (occupied holders) || ready_at states (holder_of holders)

unfoldable pub holder_elected : ℕ → List ℕ → Bool
holder_elected elected holders = not (occupied holders) || eqb elected (holder_of holders)

-- ---- "No queue is longer than its bound."

unfoldable pub lengths_right : ℕ → List ℕ → List ℕ → Bool
lengths_right queues bounds lengths = within queues queue_room (λ q. leb (get_or lengths q 0) (get_or bounds q 0))

-- ---- "The elected task is the right one."

unfoldable pub elected_right : Table → Bool
elected_right t = eqb t.elected (election_of t)

-- ---- "an armed timer's task isn't stopped and its date lies 1 to 2147483647 ticks ahead; an idle timer is all 0"

unfoldable pub timer_right : ℕ → List ℕ → ℕ → Timer → Bool
timer_right tasks states ticks r =
    cond (is_armed r)
    (all (ltb r.owner tasks
    ∷ not (eqb (get_or states r.owner 0) stopped)
    ∷ ltb r.event event_end
    ∷ ltb r.date tick_end
    ∷ ltb 0 (ahead r.date ticks)
    ∷ leb (ahead r.date ticks) longest_delay
    ∷ []))
    (all (is_zero r.armed ∷ is_zero r.owner ∷ is_zero r.event ∷ is_zero r.date ∷ []))

unfoldable pub timers_right : ℕ → List ℕ → ℕ → List Timer → Bool
timers_right tasks states ticks timers = ltb ticks tick_end && every (timer_right tasks states ticks) timers

-- ---- "an open region's holder is ready or in state 3": both are stored as ready

unfoldable pub open_holders_right : ℕ → List ℕ → List ℕ → List ℕ → Bool
open_holders_right regions states opened holders =
    within regions region_room
    (λ r. not (is_open (get_or opened r 0)) || (is_zero (get_or holders r 0) || ready_at states (get_or holders r 0 - 1)))

-- ---- "a state 3 task waits for one occupied open region of another's, and no free region is waited for"

-- task i, its stored state, and mark and holder of the region that it waits for
abbrev pub await_fits : ℕ → ℕ → ℕ → ℕ → Bool
await_fits i state mark holder = all (eqb state ready ∷ is_open mark ∷ not (is_zero holder) ∷ not (names holder i) ∷ [])

unfoldable pub awaits_right : ℕ → List ℕ → List ℕ → List ℕ → List ℕ → Bool
awaits_right tasks states awaits opened holders =
    within tasks task_room
    (λ i.
    is_zero (get_or awaits i 0)
    || await_fits i (get_or states i 0) (get_or opened (get_or awaits i 0 - 1) 0) (get_or holders (get_or awaits i 0 - 1) 0))

unfoldable pub valid : Table → Bool
valid t =
    all (shaped t
    ∷ counts_in_range t.tasks t.regions t.queues
    ∷ priorities_in_range t.tasks t.priority
    ∷ bounds_in_range t.queues t.bound
    ∷ lists_in_range t.tasks t.arrived
    ∷ lists_in_range t.tasks t.list
    ∷ operators_in_range t.tasks t.operator
    ∷ holders_in_range t.tasks t.regions t.holder
    ∷ criteria_in_range t.criterion
    ∷ zero_past_counts t
    ∷ zero_past_lengths t.length t.element t.criterion
    ∷ rest_right t
    ∷ states_right t
    ∷ entries_right t.regions t.holder t.entries
    ∷ one_holder t.regions (closed_of t)
    ∷ holder_ready (states_of t) (closed_of t)
    ∷ holder_elected t.elected (closed_of t)
    ∷ lengths_right t.queues t.bound t.length
    ∷ elected_right t
    ∷ timers_right t.tasks t.state t.ticks t.timers
    ∷ marks_in_range t.regions t.opened
    ∷ open_holders_right t.regions t.state t.opened t.holder
    ∷ no_circle t.awaits t.holder
    ∷ awaits_right t.tasks t.state t.awaits t.opened t.holder
    ∷ [])
