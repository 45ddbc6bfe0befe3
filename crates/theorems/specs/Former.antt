-- The rules as they were before T-09, over the same table: priority in the election, every region held off, no line. With closed regions only
-- they are the rules.
use Rattle.std.specs.Prelude.{ℕ, ◌≡◌, Bool, true, cond, not, ◌&&◌, List, [], ◌∷◌, map, eqb, ltb, leb, get_or, length, take, replicate}
use Rattle.rules.specs.declared.Table.{Table}
use Rattle.rules.specs.declared.Call.{Call}
use Rattle.rules.specs.declared.Answer.{Answer}
use Rattle.rules.specs.declared.Done.{Done}
use Rattle.rules.specs.Numbers.{task_room, region_room, queue_room, store_size, timer_room, most_entries, WAIT, ENTER, EXIT, SEND, RETRIEVE, TICK}
use Rattle.rules.specs.Words.{is_zero, all, every, by_operation, Reason, when, first}
use Rattle.rules.specs.Tasks.{as_stopped}
use Rattle.rules.specs.Regions.{occupied, held_by, entered, exited}
use Rattle.rules.specs.Queues.{none_fits}
use Rattle.rules.specs.Timers.{disarmed}
use Rattle.rules.specs.Election.{election, displaced_by}
use Rattle.rules.specs.Tables.{region_of, bound_of, queue_of, changed, with_timers, with_region, with_elected}
use Rattle.rules.specs.Validity.{counts_in_range, priorities_in_range, bounds_in_range, lists_in_range, operators_in_range, holders_in_range, criteria_in_range, zero_past, zero_past_lengths, rest_right, states_right, entries_right, one_holder, holder_ready, holder_elected, lengths_right, timers_right, valid}
use Rattle.rules.specs.Answers.{done, refused}
use Rattle.rules.specs.Fresh.{configuration_in_range, fresh_table}
use Rattle.rules.specs.Refusals.{outside_barred, not_elected, tick_by_task, missing, bad_operator, wrong_state, leaves}
use Rattle.rules.specs.Effects.{Effect, plain, start, signal, wait, clear, send, retrieve, arm, disarm, tick, nothing}
use Rattle.rules.specs.Step.{step}
use Rattle.theorems.specs.Kept.{after_all}

-- ---- the election

-- "the holder if any region is occupied; else the ready task of smallest priority number, and of equals the lowest task number; else 255"
abbrev pub former_election : Table → ℕ
former_election t = election t.state t.priority t.holder

-- ---- validity

unfoldable pub former_shaped : Table → Bool
former_shaped t =
    all (eqb (length t.priority) task_room
    ∷ eqb (length t.state) task_room
    ∷ eqb (length t.arrived) task_room
    ∷ eqb (length t.list) task_room
    ∷ eqb (length t.operator) task_room
    ∷ eqb (length t.holder) region_room
    ∷ eqb (length t.entries) region_room
    ∷ eqb (length t.bound) queue_room
    ∷ eqb (length t.length) queue_room
    ∷ eqb (length t.element) store_size
    ∷ eqb (length t.criterion) store_size
    ∷ eqb (length t.timers) timer_room
    ∷ [])

unfoldable pub former_zero_past_counts : Table → Bool
former_zero_past_counts t =
    all (zero_past t.tasks task_room t.priority
    ∷ zero_past t.tasks task_room t.state
    ∷ zero_past t.tasks task_room t.arrived
    ∷ zero_past t.tasks task_room t.list
    ∷ zero_past t.tasks task_room t.operator
    ∷ zero_past t.regions region_room t.holder
    ∷ zero_past t.regions region_room t.entries
    ∷ zero_past t.queues queue_room t.bound
    ∷ zero_past t.queues queue_room t.length
    ∷ [])

-- the twenty rules, with the stored states and every region's holder
unfoldable pub former_valid : Table → Bool
former_valid t =
    all (former_shaped t
    ∷ counts_in_range t.tasks t.regions t.queues
    ∷ priorities_in_range t.tasks t.priority
    ∷ bounds_in_range t.queues t.bound
    ∷ lists_in_range t.tasks t.arrived
    ∷ lists_in_range t.tasks t.list
    ∷ operators_in_range t.tasks t.operator
    ∷ holders_in_range t.tasks t.regions t.holder
    ∷ criteria_in_range t.criterion
    ∷ former_zero_past_counts t
    ∷ zero_past_lengths t.length t.element t.criterion
    ∷ rest_right t
    ∷ states_right t
    ∷ entries_right t.regions t.holder t.entries
    ∷ one_holder t.regions t.holder
    ∷ holder_ready t.state t.holder
    ∷ holder_elected t.elected t.holder
    ∷ lengths_right t.queues t.bound t.length
    ∷ eqb t.elected (former_election t)
    ∷ timers_right t.tasks t.state t.ticks t.timers
    ∷ [])

-- ---- refusals

unfoldable pub former_reasons : Table → Call → List Reason
former_reasons t c =
    when 10 (not (former_valid t))
    ∷ when 11 (ltb TICK c.operation)
    ∷ when 13 (outside_barred c)
    ∷ when 12 (not_elected t.elected c.caller)
    ∷ when 13 (tick_by_task c)
    ∷ when 14 (missing t.tasks t.regions t.queues c)
    ∷ when 19 (eqb c.operation WAIT && bad_operator c.b)
    ∷ when 15 (wrong_state t.state t.timers c)
    -- "WAIT, END or STOP of oneself while any region is occupied"; "the 256th ENTER gets 22"
    ∷ when 16 (leaves c && occupied t.holder)
    ∷ when 17 (eqb c.operation SEND && leb (bound_of t c.a) (length (queue_of t c.a)))
    ∷ when 18 (eqb c.operation RETRIEVE && none_fits c.c (queue_of t c.a))
    ∷ when 22 (eqb c.operation ENTER && eqb (get_or t.entries c.a 0) most_entries)
    ∷ when 23 (eqb c.operation EXIT && not (held_by c.caller (region_of t c.a)))
    ∷ []

unfoldable pub former_refusal : Table → Call → ℕ
former_refusal t c = first (former_reasons t c)

-- ---- effects

abbrev pub former_stopped : ℕ → Table → Table
former_stopped i t = with_timers t.ticks (map (disarmed i) t.timers) (changed i as_stopped t)

abbrev pub former_stop : Table → Call → Effect
former_stop t c = plain (former_stopped c.a t)

abbrev pub former_end : Table → Call → Effect
former_end t c = plain (former_stopped c.caller t)

-- "caller becomes holder"
abbrev pub former_enter : Table → Call → Effect
former_enter t c = plain (with_region c.a (entered c.caller (region_of t c.a)) t)

-- "free only at the matching EXIT"
abbrev pub former_exit : Table → Call → Effect
former_exit t c = plain (with_region c.a (exited (region_of t c.a)) t)

abbrev pub former_operations : List (Table → Call → Effect)
former_operations =
    start ∷ former_stop ∷ former_end ∷ signal ∷ wait ∷ clear ∷ former_enter ∷ former_exit ∷ send ∷ retrieve ∷ arm ∷ disarm ∷ tick ∷ []

unfoldable pub former_effect : Table → Call → Effect
former_effect t c = by_operation nothing c.operation former_operations t c

-- ---- one call

abbrev pub former_accepted : ℕ → Effect → Done
former_accepted former e =
    done (with_elected (former_election e.table) e.table) e.status e.given.element e.given.criterion
    (displaced_by former e.table.state (former_election e.table))

unfoldable pub former_step : Table → Call → Done
former_step t c = cond (is_zero (former_refusal t c)) (former_accepted t.elected (former_effect t c)) (refused t (former_refusal t c))

-- ---- the statement

-- no region is open, and so no task waits for one
pub record ClosedOnly (t : Table) : Type 0 where
  pub opened : t.opened ≡ replicate region_room 0
  pub awaits : t.awaits ≡ replicate task_room 0

-- the answers to some calls in turn
abbrev pub answers_to : (Table → Call → Done) → Table → List Call → List Answer
answers_to program t [] = []
answers_to program t (c ∷ cs) = (program t c).answer ∷ answers_to program (program t c).table cs

pub record ClosedAsBefore : Type 0 where
  -- whether a table is valid, and what a call makes of it and answers, whatever the table is
  pub same_validity : (t : Table) → ClosedOnly t → valid t ≡ former_valid t
  pub same_step : (t : Table) (c : Call) → ClosedOnly t → step t c ≡ former_step t c
  -- it stays so
  pub stays : (t : Table) (c : Call) → ClosedOnly t → ClosedOnly (step t c).table
  pub same_answers : (t : Table) (cs : List Call) → ClosedOnly t → (answers_to step t cs ≡ answers_to former_step t cs) × ClosedOnly (after_all t cs)
  -- and begins so, from a configuration in which every mark is 0
  pub begins : (tasks regions queues : ℕ) (priorities bounds marks : List ℕ) → configuration_in_range tasks regions queues priorities bounds marks ≡ true
      → every is_zero (take regions marks) ≡ true
      → ClosedOnly (fresh_table tasks regions queues priorities bounds marks)
