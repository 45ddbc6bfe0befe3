-- T-09, sentence by sentence: regions that can be waited for, as rows that antt computes. `Rows` has the words that they are written with, and
-- `OpenTables` what T-09 says of tables.
use mathlib.Core.Path.{◌≡◌, refl}
use mathlib.Core.Bool.{Bool, true, ◌&&◌}
use mathlib.Core.List.{List, [], ◌∷◌}
use Rattle.rules.specs.declared.Table.{Table}
use Rattle.rules.specs.declared.Done.{Done}
use Rattle.rules.specs.Numbers.{outside, nobody, START, STOP, END, SIGNAL, WAIT, ENTER, EXIT, ARM, TICK}
use Rattle.rules.specs.Words.{every}
use Rattle.rules.specs.Tables.{with_region}
use Rattle.rules.specs.Fresh.{fresh}
use Rattle.rules.specs.Step.{step}
use Rattle.rules.proofs.Quick.{computed}
use Rattle.rules.proofs.Rows.{Run, says, aside, run, ends_with, Does, same_answer, right, computing}

-- four tasks of priorities 40, 10, 20, 30, as in source document 002's tournament; regions 0, 1 and 2 are open, region 3 is closed
unfoldable pub shared : Done
shared = fresh 4 4 0 (40 ∷ 10 ∷ 20 ∷ 30 ∷ []) [] (1 ∷ 1 ∷ 1 ∷ 0 ∷ [])

-- each run gives what is said of it, and the fresh table is accepted
pub open_right : List Run → Does → Bool
open_right runs does =
    let b = shared in
    same_answer b.answer (aside 0 0 0 0 0 0 0 nobody) && every (right does b.table) runs

-- ---- "An open region doesn't stop preemption. ENTER of one held by another task suspends the caller (status 1)."

-- The task that START pushes aside is displaced, the one that suspends itself is not, for it is no longer ready. What is held by nobody, or by
-- the caller, is entered as before.
abbrev suspending : List Run
suspending =
    run
    (aside 0 ENTER 0 0 0 0 0 nobody
    ∷ aside 0 START 1 0 0 0 1 0
    ∷ aside 1 ENTER 1 0 0 0 1 nobody
    ∷ aside 1 ENTER 0 0 0 1 0 nobody
    ∷ aside 0 ENTER 0 0 0 0 0 nobody
    ∷ aside 1 ENTER 2 0 0 12 0 nobody
    ∷ [])
    ∷ []

pub suspend_row : open_right suspending step ≡ true
unfolding computing shared open_right
suspend_row = computed (open_right suspending) refl

-- "others stay closed": a closed region holds off everybody, as in P2, also while an open one is held
abbrev still_closed : List Run
still_closed =
    run
    (aside 0 ENTER 0 0 0 0 0 nobody
    ∷ aside 0 ENTER 3 0 0 0 0 nobody
    ∷ aside 0 START 1 0 0 0 0 nobody
    ∷ aside 1 ENTER 1 0 0 12 0 nobody
    ∷ aside 0 EXIT 3 0 0 0 1 0
    ∷ [])
    ∷ []

pub closed_row : open_right still_closed step ≡ true
unfolding computing shared open_right
closed_row = computed (open_right still_closed) refl

-- ---- "a holder takes the smallest priority number of its own and those waiting on it, through any chain"; "Election uses that urgency"

-- The holder with 40 runs with 10 while the task of 10 waits, though tasks of 20 and 30 are ready; when it has let the region go it has 40 again.
abbrev borrowing : List Run
borrowing =
    run
    (says 0 ENTER 0 0 0 0 0
    ∷ says 0 START 1 0 0 0 1
    ∷ says 1 START 2 0 0 0 1
    ∷ says 1 START 3 0 0 0 1
    ∷ aside 1 ENTER 0 0 0 1 0 nobody
    ∷ aside 0 EXIT 0 0 0 0 1 0
    ∷ says 1 EXIT 0 0 0 0 1
    ∷ says 1 END 0 0 0 0 2
    ∷ says 2 END 0 0 0 0 3
    ∷ says 3 END 0 0 0 0 0
    ∷ [])
    ∷ []

pub borrow_row : open_right borrowing step ≡ true
unfolding computing shared open_right
borrow_row = computed (open_right borrowing) refl

-- Task 1, of 10, waits for what task 3, of 30, holds; this waits for what task 0, of 40, holds. So task 0 has 10 through task 3, and not only 30:
-- it is elected though task 2, of 20, is ready. At each EXIT the urgency goes where the region goes.
abbrev through_a_chain : List Run
through_a_chain =
    run
    (says 0 ENTER 0 0 0 0 0
    ∷ says 0 START 3 0 0 0 3
    ∷ says 3 ENTER 1 0 0 0 3
    ∷ says 3 ENTER 0 0 0 1 0
    ∷ says 0 START 2 0 0 0 2
    ∷ says 2 START 1 0 0 0 1
    ∷ says 1 ENTER 1 0 0 1 0
    ∷ aside 0 EXIT 0 0 0 0 3 0
    ∷ aside 3 EXIT 1 0 0 0 1 3
    ∷ [])
    ∷ []

pub chain_row : open_right through_a_chain step ≡ true
unfolding computing shared open_right
chain_row = computed (open_right through_a_chain) refl

-- ---- "EXIT at count 0 gives it to its most urgent waiting task (urgency as below), lowest number of equals, which holds it with count 1 and
-- becomes ready."

-- Only the matching EXIT gives it; the heir leaves it with one EXIT, and a second is one too many. Nobody waits then: the region is free.
abbrev handed_on : List Run
handed_on =
    run
    (says 0 ENTER 0 0 0 0 0
    ∷ says 0 ENTER 0 0 0 0 0
    ∷ says 0 START 1 0 0 0 1
    ∷ says 1 ENTER 0 0 0 1 0
    ∷ says 0 EXIT 0 0 0 0 0
    ∷ says 0 EXIT 0 0 0 0 1
    ∷ says 1 EXIT 0 0 0 0 1
    ∷ says 1 EXIT 0 0 0 23 1
    ∷ says 1 END 0 0 0 0 0
    ∷ says 0 ENTER 0 0 0 0 0
    ∷ [])
    ∷ []

pub handed_row : open_right handed_on step ≡ true
unfolding computing shared open_right
handed_row = computed (open_right handed_on) refl

-- The whole tournament: tasks 3, 2 and 1 come to wait in this order, of 30, 20 and 10, and get the region in the order of their urgency.
abbrev most_urgent_first : List Run
most_urgent_first =
    run
    (says 0 ENTER 0 0 0 0 0
    ∷ says 0 START 3 0 0 0 3
    ∷ says 3 ENTER 0 0 0 1 0
    ∷ says 0 START 2 0 0 0 2
    ∷ says 2 ENTER 0 0 0 1 0
    ∷ says 0 START 1 0 0 0 1
    ∷ says 1 ENTER 0 0 0 1 0
    ∷ says 0 EXIT 0 0 0 0 1
    ∷ says 1 EXIT 0 0 0 0 1
    ∷ says 1 END 0 0 0 0 2
    ∷ says 2 EXIT 0 0 0 0 2
    ∷ says 2 END 0 0 0 0 3
    ∷ says 3 EXIT 0 0 0 0 3
    ∷ says 3 EXIT 0 0 0 23 3
    ∷ [])
    ∷ []

pub tournament_row : open_right most_urgent_first step ≡ true
unfolding computing shared open_right
tournament_row = computed (open_right most_urgent_first) refl

-- Tasks 2, of 20, and 3, of 30, wait for region 0; but for task 3's own region waits task 1, of 10: it gets region 0 with 10, before task 2.
abbrev by_urgency : List Run
by_urgency =
    run
    (says 0 ENTER 0 0 0 0 0
    ∷ says 0 START 3 0 0 0 3
    ∷ says 3 ENTER 1 0 0 0 3
    ∷ says 3 ENTER 0 0 0 1 0
    ∷ says 0 START 2 0 0 0 2
    ∷ says 2 ENTER 0 0 0 1 0
    ∷ says 0 START 1 0 0 0 1
    ∷ says 1 ENTER 1 0 0 1 0
    ∷ says 0 EXIT 0 0 0 0 3
    ∷ says 3 EXIT 0 0 0 0 3
    ∷ says 3 EXIT 1 0 0 0 1
    ∷ [])
    ∷ []

pub heir_row : open_right by_urgency step ≡ true
unfolding computing shared open_right
heir_row = computed (open_right by_urgency) refl

-- Tasks 0 and 1 have the same priority number, and task 2 a larger one: it holds the region. Task 1 comes to wait first, task 0 gets it first; and
-- while task 1 alone waits, task 0 is elected before the holder, which has the same urgency and a higher number.
abbrev equals : Table
equals = (fresh 3 1 0 (5 ∷ 5 ∷ 9 ∷ []) [] (1 ∷ [])).table

abbrev lowest_of_equals : Run
lowest_of_equals =
    run
    (says 0 START 1 0 0 0 0
    ∷ says 0 START 2 0 0 0 0
    ∷ says 0 WAIT 1 0 0 1 1
    ∷ says 1 WAIT 1 0 0 1 2
    ∷ says 2 ENTER 0 0 0 0 2
    ∷ says outside SIGNAL 0 1 0 0 1
    ∷ says 1 ENTER 0 0 0 1 2
    ∷ says outside SIGNAL 0 0 0 0 0
    ∷ says 0 ENTER 0 0 0 1 2
    ∷ says 2 EXIT 0 0 0 0 0
    ∷ says 0 EXIT 0 0 0 0 0
    ∷ says 0 END 0 0 0 0 1
    ∷ says 1 EXIT 0 0 0 0 1
    ∷ [])

pub equals_row : right step equals lowest_of_equals ≡ true
unfolding computing
equals_row = computed (λ does. right does equals lowest_of_equals) refl

-- ---- "a signal to such a task is only recorded"

-- By a task, by the outside and by a timer: it stays suspended, and when it has had its region the WAIT for these events passes. START of it is
-- that "of a task not stopped".
abbrev recorded : List Run
recorded =
    ends_with 1 14
    (says 0 ENTER 0 0 0 0 0
    ∷ says 0 START 1 0 0 0 1
    ∷ says 1 ARM 0 3 1 0 1
    ∷ says 1 ENTER 0 0 0 1 0
    ∷ says 0 SIGNAL 1 1 0 0 0
    ∷ says outside SIGNAL 2 1 0 0 0
    ∷ says outside TICK 0 0 0 0 0
    ∷ says 0 START 1 0 0 15 0
    ∷ says 0 EXIT 0 0 0 0 1
    ∷ says 1 EXIT 0 0 0 0 1
    ∷ says 1 WAIT 14 0 0 0 1
    ∷ [])
    ∷ []

pub recorded_row : open_right recorded step ≡ true
unfolding computing shared open_right
recorded_row = computed (open_right recorded) refl

-- "A stopped task leaves its line": when task 1 is stopped its urgency goes from the holder, which has 30 from task 3 then and gives way to task 2,
-- of 20. At the EXIT the region is task 2's, which waits by then. Where nobody else waits the region is free.
abbrev leaves_its_line : List Run
leaves_its_line =
    run
    (says 0 ENTER 0 0 0 0 0
    ∷ says 0 START 3 0 0 0 3
    ∷ says 3 ENTER 0 0 0 1 0
    ∷ says 0 START 1 0 0 0 1
    ∷ says 1 START 2 0 0 0 1
    ∷ says 1 ENTER 0 0 0 1 0
    ∷ aside 0 STOP 1 0 0 0 2 0
    ∷ says 2 ENTER 0 0 0 1 0
    ∷ says 0 EXIT 0 0 0 0 2
    ∷ [])
    ∷ run
    (says 0 ENTER 0 0 0 0 0
    ∷ says 0 START 1 0 0 0 1
    ∷ says 1 ENTER 0 0 0 1 0
    ∷ says 0 STOP 1 0 0 0 0
    ∷ says 0 EXIT 0 0 0 0 0
    ∷ says 0 START 1 0 0 0 1
    ∷ says 1 ENTER 0 0 0 0 1
    ∷ [])
    ∷ []

pub line_rows : open_right leaves_its_line step ≡ true
unfolding computing shared open_right
line_rows = computed (open_right leaves_its_line) refl

-- ---- "ENTER that would close a circle gets 24."

-- of two. "Every refusal leaves the table as it came in", so that the EXIT gives the region on. An ENTER of one's own region closes none.
abbrev circle_of_two : List Run
circle_of_two =
    run
    (says 0 ENTER 0 0 0 0 0
    ∷ says 0 START 1 0 0 0 1
    ∷ says 1 ENTER 1 0 0 0 1
    ∷ says 1 ENTER 0 0 0 1 0
    ∷ says 0 ENTER 1 0 0 24 0
    ∷ says 0 ENTER 0 0 0 0 0
    ∷ says 0 EXIT 0 0 0 0 0
    ∷ says 0 EXIT 0 0 0 0 1
    ∷ [])
    ∷ []

pub two_row : open_right circle_of_two step ≡ true
unfolding computing shared open_right
two_row = computed (open_right circle_of_two) refl

-- of three: region 2 is task 2's, which waits for task 3's, which waits for task 0's. For task 1, which holds nothing, it is no circle.
abbrev circle_of_three : List Run
circle_of_three =
    run
    (says 0 ENTER 0 0 0 0 0
    ∷ says 0 START 3 0 0 0 3
    ∷ says 3 ENTER 1 0 0 0 3
    ∷ says 3 ENTER 0 0 0 1 0
    ∷ says 0 START 2 0 0 0 2
    ∷ says 2 ENTER 2 0 0 0 2
    ∷ says 2 ENTER 1 0 0 1 0
    ∷ says 0 ENTER 2 0 0 24 0
    ∷ says 0 START 1 0 0 0 1
    ∷ says 1 ENTER 2 0 0 1 0
    ∷ [])
    ∷ []

pub three_row : open_right circle_of_three step ≡ true
unfolding computing shared open_right
three_row = computed (open_right circle_of_three) refl

-- ---- "Document 01's 16 now counts closed regions only, and also covers WAIT by a holder of an open one and an ENTER that would suspend while a
-- closed one is held."

-- WAIT and END by a task that holds nothing, while another holds an open region
abbrev closed_only : List Run
closed_only =
    run
    (says 0 ENTER 0 0 0 0 0
    ∷ says 0 START 1 0 0 0 1
    ∷ says 1 WAIT 1 0 0 1 0
    ∷ says outside SIGNAL 0 1 0 0 1
    ∷ says 1 END 0 0 0 0 0
    ∷ [])
    ∷ []

pub closed_only_row : open_right closed_only step ≡ true
unfolding computing shared open_right
closed_only_row = computed (open_right closed_only) refl

-- WAIT by the holder of an open one, "even if the wait would pass"
abbrev holder_waits : List Run
holder_waits =
    run
    (says 0 ENTER 0 0 0 0 0
    ∷ says 0 WAIT 1 0 0 16 0
    ∷ says outside SIGNAL 0 0 0 0 0
    ∷ says 0 WAIT 1 0 0 16 0
    ∷ says 0 EXIT 0 0 0 0 0
    ∷ says 0 WAIT 1 0 0 0 0
    ∷ [])
    ∷ []

pub holder_waits_row : open_right holder_waits step ≡ true
unfolding computing shared open_right
holder_waits_row = computed (open_right holder_waits) refl

-- An ENTER that would suspend, and one that would not, by the holder of a closed region; "24 and 25 come after 16", so that an ENTER that would
-- also close a circle gets 16 inside the closed region and 24 outside it.
abbrev sixteen_first : List Run
sixteen_first =
    run
    (says 0 ENTER 0 0 0 0 0
    ∷ says 0 START 1 0 0 0 1
    ∷ says 1 ENTER 3 0 0 0 1
    ∷ says 1 ENTER 0 0 0 16 1
    ∷ says 1 ENTER 1 0 0 0 1
    ∷ says 1 EXIT 3 0 0 0 1
    ∷ says 1 ENTER 0 0 0 1 0
    ∷ says 0 ENTER 3 0 0 0 0
    ∷ says 0 ENTER 1 0 0 16 0
    ∷ says 0 EXIT 3 0 0 0 0
    ∷ says 0 ENTER 1 0 0 24 0
    ∷ [])
    ∷ []

pub sixteen_row : open_right sixteen_first step ≡ true
unfolding computing shared open_right
sixteen_row = computed (open_right sixteen_first) refl

-- ---- "STOP or END of a task that holds an open region gets 25."

-- END and STOP of oneself; 16 before 25 where a closed region is held too
abbrev holder_ends : List Run
holder_ends =
    run
    (says 0 ENTER 0 0 0 0 0
    ∷ says 0 END 0 0 0 25 0
    ∷ says 0 STOP 0 0 0 25 0
    ∷ says 0 ENTER 3 0 0 0 0
    ∷ says 0 END 0 0 0 16 0
    ∷ says 0 STOP 0 0 0 16 0
    ∷ says 0 EXIT 3 0 0 0 0
    ∷ says 0 EXIT 0 0 0 0 0
    ∷ says 0 END 0 0 0 0 nobody
    ∷ [])
    ∷ []

pub holder_ends_row : open_right holder_ends step ≡ true
unfolding computing shared open_right
holder_ends_row = computed (open_right holder_ends) refl

-- STOP of another, which is not asked for 16; once the region is let go the task can be stopped. A holder that is itself in a line stays too.
abbrev holder_stopped : List Run
holder_stopped =
    run
    (says 0 ENTER 0 0 0 0 0
    ∷ says 0 START 1 0 0 0 1
    ∷ says 1 STOP 0 0 0 25 1
    ∷ says 1 ENTER 3 0 0 0 1
    ∷ says 1 STOP 0 0 0 25 1
    ∷ says 1 EXIT 3 0 0 0 1
    ∷ says 1 WAIT 1 0 0 1 0
    ∷ says 0 EXIT 0 0 0 0 0
    ∷ says outside SIGNAL 0 1 0 0 1
    ∷ says 1 STOP 0 0 0 0 1
    ∷ [])
    ∷ run
    (says 0 ENTER 0 0 0 0 0
    ∷ says 0 START 1 0 0 0 1
    ∷ says 1 ENTER 1 0 0 0 1
    ∷ says 1 ENTER 0 0 0 1 0
    ∷ says 0 STOP 1 0 0 25 0
    ∷ [])
    ∷ []

pub holder_stopped_row : open_right holder_stopped step ≡ true
unfolding computing shared open_right
holder_stopped_row = computed (open_right holder_stopped) refl

-- ---- "The 256th ENTER gets 22": of the caller's own region, and no ENTER of one that another task has entered 255 times

abbrev entered_to_the_end : Table
entered_to_the_end = with_region 0 (record { holder = 1; entries = 255 }) shared.table

abbrev own_alone : Run
own_alone = run (says 0 ENTER 0 0 0 22 0 ∷ says 0 START 1 0 0 0 1 ∷ says 1 ENTER 0 0 0 1 0 ∷ says 0 ENTER 0 0 0 22 0 ∷ [])

pub own_entries_row : right step entered_to_the_end own_alone ≡ true
unfolding computing shared
own_entries_row = computed (λ does. right does entered_to_the_end own_alone) refl
