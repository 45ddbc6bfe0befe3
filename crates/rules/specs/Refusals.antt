-- The refusals: "Checks go in this order; the first that applies is given, and none is given otherwise."
use Rattle.std.specs.Prelude.{ℕ, ◌-◌, Bool, false, true, not, ◌&&◌, ◌||◌, List, [], ◌∷◌, ltb, eqb, leb, get_or, length}
use Rattle.rules.specs.declared.Timer.{Timer}
use Rattle.rules.specs.declared.Region.{Region}
use Rattle.rules.specs.declared.Table.{Table}
use Rattle.rules.specs.declared.Call.{Call}
use Rattle.rules.specs.Numbers.{task_room, event_end, most_entries, criterion_end, largest_present, timer_room, longest_delay, outside, SIGNAL, WAIT, ENTER, EXIT, SEND, RETRIEVE, TICK}
use Rattle.rules.specs.Words.{is_zero, names, by_operation, Reason, when, first}
use Rattle.rules.specs.Tasks.{stopped}
use Rattle.rules.specs.Regions.{occupied, held_by}
use Rattle.rules.specs.Queues.{none_fits}
use Rattle.rules.specs.Timers.{idle, armed_by_other}
use Rattle.rules.specs.Urgency.{closed_holders, holds_open}
use Rattle.rules.specs.Circles.{meets}
use Rattle.rules.specs.Tables.{region_of, bound_of, queue_of}
use Rattle.rules.specs.Validity.{valid}

-- ---- 13 and 12

-- "caller 255 and the operation isn't SIGNAL"; "status 13 lets TICK pass"
abbrev pub outside_barred : Call → Bool
outside_barred c = eqb c.caller outside && not (eqb c.operation SIGNAL || eqb c.operation TICK)

-- "caller not 255 and not the elected task"
abbrev pub not_elected : ℕ → ℕ → Bool
not_elected elected caller = not (eqb caller outside) && not (eqb caller elected)

-- "a TICK from a task gets 12 if that task isn't elected and 13 if it is"
abbrev pub tick_by_task : Call → Bool
tick_by_task c = eqb c.operation TICK && not (eqb c.caller outside)

-- ---- 14: "a task, event, region, queue or criterion that doesn't exist; an event list of 0 or above 65535"; "14 covers timer and delay"

-- a number at or past the count: of tasks, events, regions, queues, criteria
abbrev pub absent : ℕ → ℕ → Bool
absent count i = not (ltb i count)

abbrev pub bad_list : ℕ → Bool
bad_list list = is_zero list || ltb 65535 list

-- "delay 1 to 2147483647"
abbrev pub bad_delay : ℕ → Bool
bad_delay delay = is_zero delay || ltb longest_delay delay

-- RETRIEVE takes 16 too
abbrev pub bad_key : ℕ → Bool
bad_key k = ltb largest_present k

unfoldable pub missing : ℕ → ℕ → ℕ → Call → Bool
missing tasks regions queues c =
    by_operation false c.operation
    -- START, STOP, END
    (absent tasks c.a
    ∷ absent tasks c.a
    ∷ false
    -- SIGNAL, WAIT, CLEAR
    ∷ (absent event_end c.a || absent tasks c.b)
    ∷ bad_list c.a
    ∷ bad_list c.a
    -- ENTER, EXIT
    ∷ absent regions c.a
    ∷ absent regions c.a
    -- SEND, RETRIEVE
    ∷ (absent queues c.a || absent criterion_end c.c)
    ∷ (absent queues c.a || bad_key c.c)
    -- ARM, DISARM, TICK
    ∷ (absent timer_room c.a || (absent event_end c.b || bad_delay c.c))
    ∷ absent timer_room c.a
    ∷ false
    ∷ [])

-- ---- 19: "operator above 1"

abbrev pub bad_operator : ℕ → Bool
bad_operator operator = ltb 1 operator

-- ---- 15: "START of a task not stopped; STOP or SIGNAL of a stopped one"; "ARM or DISARM of a timer that another task has armed"

abbrev pub stopped_at : List ℕ → ℕ → Bool
stopped_at states i = eqb (get_or states i 0) stopped

abbrev pub others_at : List Timer → ℕ → ℕ → Bool
others_at timers caller i = armed_by_other caller (get_or timers i idle)

unfoldable pub wrong_state : List ℕ → List Timer → Call → Bool
wrong_state states timers c =
    by_operation false c.operation
    -- START, STOP, END, SIGNAL
    (not (stopped_at states c.a)
    ∷ stopped_at states c.a
    ∷ false
    ∷ stopped_at states c.b
    -- WAIT, CLEAR, ENTER, EXIT, SEND, RETRIEVE
    ∷ false
    ∷ false
    ∷ false
    ∷ false
    ∷ false
    ∷ false
    -- ARM, DISARM
    ∷ others_at timers c.caller c.a
    ∷ others_at timers c.caller c.a
    ∷ [])

-- ---- 16: "WAIT, END or STOP of oneself while any region is occupied, even if the wait would pass". Since T-09 it "counts closed regions
-- only, and also covers WAIT by a holder of an open one and an ENTER that would suspend while a closed one is held"

unfoldable pub leaves : Call → Bool
leaves c =
    by_operation false c.operation
    -- START, STOP, END, SIGNAL, WAIT
    (false ∷ eqb c.a c.caller ∷ true ∷ false ∷ true ∷ [])

-- "ENTER of one held by another task suspends the caller": an open one, since none but the elected task holds closed regions
abbrev pub suspends : List ℕ → Call → Bool
suspends holders c =
    eqb c.operation ENTER && (not (is_zero (get_or holders c.a 0)) && not (names (get_or holders c.a 0) c.caller))

unfoldable pub inside : List ℕ → List ℕ → Call → Bool
inside opened holders c =
    ((leaves c || suspends holders c) && occupied (closed_holders opened holders))
    || (eqb c.operation WAIT && holds_open opened holders c.caller)

-- ---- 22 and 23: "The 256th ENTER gets 22, checked after 16"; "EXIT of a region that the caller doesn't hold now gets 23, checked after 16"

-- the caller's own region, whose count is at its end
abbrev pub entries_full : Region → ℕ → Bool
entries_full r caller = held_by caller r && eqb r.entries most_entries

-- ---- 24 and 25: "ENTER that would close a circle gets 24. STOP or END of a task that holds an open region gets 25."

-- the way from the region's holder comes to the caller
unfoldable pub closes_circle : List ℕ → List ℕ → Call → Bool
closes_circle awaits holders c = suspends holders c && meets awaits holders task_room c.caller (get_or holders c.a 0 - 1)

unfoldable pub stops_holder : List ℕ → List ℕ → Call → Bool
stops_holder opened holders c =
    by_operation false c.operation
    -- START, STOP, END
    (false ∷ holds_open opened holders c.a ∷ holds_open opened holders c.caller ∷ [])

-- ---- the list of a call: the rows of the status table, in its order

unfoldable pub reasons : Table → Call → List Reason
reasons t c =
    when 10 (not (valid t))
    ∷ when 11 (ltb TICK c.operation)
    ∷ when 13 (outside_barred c)
    ∷ when 12 (not_elected t.elected c.caller)
    ∷ when 13 (tick_by_task c)
    ∷ when 14 (missing t.tasks t.regions t.queues c)
    ∷ when 19 (eqb c.operation WAIT && bad_operator c.b)
    ∷ when 15 (wrong_state t.state t.timers c)
    ∷ when 16 (inside t.opened t.holder c)
    ∷ when 17 (eqb c.operation SEND && leb (bound_of t c.a) (length (queue_of t c.a)))
    ∷ when 18 (eqb c.operation RETRIEVE && none_fits c.c (queue_of t c.a))
    ∷ when 22 (eqb c.operation ENTER && entries_full (region_of t c.a) c.caller)
    ∷ when 23 (eqb c.operation EXIT && not (held_by c.caller (region_of t c.a)))
    ∷ when 24 (closes_circle t.awaits t.holder c)
    ∷ when 25 (stops_holder t.opened t.holder c)
    ∷ []

-- ---- the lists of the queries: "ARRIVED uses 10, 12, 14, 19, and 12 for caller 255; the other queries have no caller and use 10 and 14"

unfoldable pub arrived_reasons : Table → ℕ → ℕ → ℕ → List Reason
arrived_reasons t caller list operator =
    when 10 (not (valid t))
    ∷ when 12 (eqb caller outside || not (eqb caller t.elected))
    ∷ when 14 (bad_list list)
    ∷ when 19 (bad_operator operator)
    ∷ []

-- a query of one object, of which there are so many
unfoldable pub object_reasons : Table → ℕ → ℕ → List Reason
object_reasons t count i = when 10 (not (valid t)) ∷ when 14 (absent count i) ∷ []

-- the status of a refused call; 0 where it is accepted
unfoldable pub refusal : Table → Call → ℕ
refusal t c = first (reasons t c)
