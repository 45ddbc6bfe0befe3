-- The reasons that a call can meet, by its kind, once its numbers stand for something: as the code tests them, over the arrays that it reads.
use Rattle.std.specs.Prelude.{ℕ, suc, ◌+◌, Bool, false, cond, not, ◌&&◌, List, [], ◌∷◌, eqb, ltb, leb, get_or}
use Rattle.rules.specs.declared.Timer.{Timer}
use Rattle.rules.specs.declared.Call.{Call}
use Rattle.rules.specs.Numbers.{queue_room, most_entries, WAIT, ENTER, EXIT, SEND, RETRIEVE, TICK}
use Rattle.rules.specs.Words.{names, by_operation, Reason, when}
use Rattle.rules.specs.Queues.{first_place}
use Rattle.rules.specs.Refusals.{bad_operator, stopped_at, others_at, inside, closes_circle, stops_holder}
use Rattle.tables.specs.declared.front.Front.{Front}
use Rattle.queues.specs.Places.{place_in}

-- 15 of a call about tasks: START, STOP, END, SIGNAL
unfoldable pub wrong_task : List ℕ → Call → Bool
wrong_task states c =
    by_operation false c.operation
    (not (stopped_at states c.a) ∷ stopped_at states c.a ∷ false ∷ stopped_at states c.b ∷ [])

-- 22 and 23 by the holder's entry
abbrev pub deepest : List ℕ → List ℕ → Call → Bool
deepest holders entries c =
    eqb c.operation ENTER && (names (get_or holders c.a 0) c.caller && eqb (get_or entries c.a 0) most_entries)

abbrev pub not_held : List ℕ → Call → Bool
not_held holders c = eqb c.operation EXIT && not (eqb (get_or holders c.a 0) (suc c.caller))

abbrev pub task_reasons : Front → Call → List Reason
task_reasons f c =
    when 19 (eqb c.operation WAIT && bad_operator c.b)
    ∷ when 15 (wrong_task f.state c)
    ∷ when 16 (inside f.opened f.holder c)
    ∷ when 22 (deepest f.holder f.entries c)
    ∷ when 23 (not_held f.holder c)
    ∷ when 24 (closes_circle f.awaits f.holder c)
    ∷ when 25 (stops_holder f.opened f.holder c)
    ∷ []

-- 17 by the queue's length as it is stored
abbrev pub full : List ℕ → List ℕ → Call → Bool
full bound lengths c = eqb c.operation SEND && leb (get_or bound c.a 0) (get_or lengths c.a 0)

-- 18 by places of the store: the place found is the end of the queue
unfoldable pub lacking : List ℕ → List ℕ → Call → Bool
lacking lengths criterion c =
    cond (eqb c.operation RETRIEVE && ltb c.a queue_room)
    (leb (first_place c.a + get_or lengths c.a 0)
    (place_in (first_place c.a) (first_place c.a + get_or lengths c.a 0) c.c criterion))
    false

abbrev pub queue_reasons : Front → List ℕ → Call → List Reason
queue_reasons f criterion c = when 17 (full f.bound f.length c) ∷ when 18 (lacking f.length criterion c) ∷ []

-- TICK and whatever comes behind it have none
abbrev pub timer_reasons : List Timer → Call → List Reason
timer_reasons timers c = when 15 (ltb c.operation TICK && others_at timers c.caller c.a) ∷ []
