-- The ten P rows of document 01's bench examples, as one list, shown right by one claim that antt computes; and T-01's timers and T-04's counts likewise. `OpenRows` has those of T-09.
use Prim.Native.Nat.{ℕ, ◌-◌}
use mathlib.Core.Path.{◌≡◌, refl}
use mathlib.Core.Bool.{Bool, true, ◌&&◌}
use mathlib.Core.List.{List, [], ◌∷◌}
use lib.Dec.{eqb}
use Rattle.rules.specs.declared.Region.{Region}
use Rattle.rules.specs.declared.Table.{Table}
use Rattle.rules.specs.declared.Call.{Call}
use Rattle.rules.specs.declared.Answer.{Answer}
use Rattle.rules.specs.declared.Done.{Done}
use Rattle.rules.specs.Numbers.{tick_end, outside, nobody, START, STOP, END, SIGNAL, WAIT, CLEAR, ENTER, EXIT, SEND, RETRIEVE, ARM, DISARM, TICK}
use Rattle.rules.specs.Words.{all, every, below, padded, column}
use Rattle.rules.specs.Events.{met, arrive, cleared}
use Rattle.rules.specs.Tasks.{woken, signalled, waited}
use Rattle.rules.specs.Regions.{held}
use Rattle.rules.specs.Queues.{pairs, front, behind, laid, largest, before, place, without}
use Rattle.rules.specs.Election.{smallest, lowest, is_best, best_ready, election, displaced_by}
use Rattle.rules.specs.Urgency.{closed_holders, holds_open, nobody_awaits, states_with, urgency_by, region_urgency, task_urgency, urgencies, line, heir}
use Rattle.rules.specs.Circles.{onward, ends, meets, no_circle}
use Rattle.rules.specs.Tables.{task_of, with_region, with_timers, queue_of}
use Rattle.rules.specs.Validity.{shaped, counts_in_range, priorities_in_range, bounds_in_range, lists_in_range, operators_in_range, holders_in_range, criteria_in_range, zero_past, zero_past_counts, zero_past_lengths, rest_right, states_right, entries_right, one_holder, holder_ready, holder_elected, lengths_right, elected_right, timer_right, timers_right, marks_in_range, open_holders_right, awaits_right, valid}
use Rattle.rules.specs.Fresh.{configuration_in_range, fresh_table, fresh}
use Rattle.rules.specs.Refusals.{missing, wrong_state, leaves, inside, closes_circle, stops_holder, reasons}
use Rattle.rules.specs.Timers.{later, ahead}
use Rattle.rules.specs.Effects.{ringing, ticked, effect}
use Rattle.rules.specs.Step.{step}
use Rattle.rules.proofs.Quick.{zero_behind, zero_rest, zero_rests, way_ends, ways_end, quick_valid, quick_step, computed}

-- a call, and what document 01 says of its answer; of the one displaced the rows before T-08 say nothing
pub record Said : Type 0 where
  pub call : Call
  pub status : ℕ
  pub value : ℕ
  pub key : ℕ
  pub elected : ℕ
  pub displaced : List ℕ

-- what document 01 says of a task's events at the end of a run
pub record Events : Type 0 where
  pub task : ℕ
  pub arrived : ℕ

-- calls from a fresh table on, in their order
pub record Run : Type 0 where
  pub says : List Said
  pub shows : List Events

-- who calls, the operation and its numbers, then status, value, key and elected task
abbrev pub gives : ℕ → ℕ → ℕ → ℕ → ℕ → ℕ → ℕ → ℕ → ℕ → Said
gives who operation a b c status value key elected =
    record {
      call = record { caller = who; operation = operation; a = a; b = b; c = c };
      status = status;
      value = value;
      key = key;
      elected = elected;
      displaced = [];
    }

-- the same where value and key are 0
abbrev pub says : ℕ → ℕ → ℕ → ℕ → ℕ → ℕ → ℕ → Said
says who operation a b c status elected = gives who operation a b c status 0 0 elected

-- the same, with the one displaced
abbrev pub aside : ℕ → ℕ → ℕ → ℕ → ℕ → ℕ → ℕ → ℕ → Said
aside who operation a b c status elected displaced =
    record {
      call = record { caller = who; operation = operation; a = a; b = b; c = c };
      status = status;
      value = 0;
      key = 0;
      elected = elected;
      displaced = displaced ∷ [];
    }

-- a run, and a run at whose end a task's events are named
abbrev pub run : List Said → Run
run calls = record { says = calls; shows = [] }

abbrev pub ends_with : ℕ → ℕ → List Said → Run
ends_with task arrived calls = record { says = calls; shows = record { task = task; arrived = arrived } ∷ [] }

pub same_answer : Answer → Said → Bool
same_answer x y =
    eqb x.status y.status && eqb x.value y.value && eqb x.key y.key && eqb x.elected y.elected
    && every (eqb x.displaced) y.displaced

pub same_events : Table → Events → Bool
same_events t e = eqb (task_of t e.task).arrived e.arrived

-- what a call does to a table
abbrev pub Does : Type 0
Does = Table → Call → Done

pub right_from : Does → Table → List Said → List Events → Bool
right_from does t [] shows = every (same_events t) shows
right_from does t (s ∷ ss) shows =
    let d = does t s.call in
    same_answer d.answer s && right_from does d.table ss shows

-- "Each starts fresh: priorities 5, 5, 2, two regions, one queue of bound 2." Both regions are closed.
pub begun : Done
begun = fresh 3 2 1 (5 ∷ 5 ∷ 2 ∷ []) (2 ∷ []) (0 ∷ 0 ∷ [])

pub right : Does → Table → Run → Bool
right does t r = right_from does t r.says r.shows

-- each run of each row gives what is said of it, and the fresh table is accepted
pub rows_right : List (List Run) → Does → Bool
rows_right rows does = let b = begun in same_answer b.answer (aside 0 0 0 0 0 0 0 nobody) && every (every (right does b.table)) rows

-- "P1: task 0 STARTs 2: elected 2. STARTing 1 instead: elected 0."
abbrev P1 : List Run
P1 = run (says 0 START 2 0 0 0 2 ∷ []) ∷ run (says 0 START 1 0 0 0 0 ∷ []) ∷ []

-- "P2: ENTER 0, START 2: elected 0; EXIT 0: elected 2."
abbrev P2 : List Run
P2 = run (says 0 ENTER 0 0 0 0 0 ∷ says 0 START 2 0 0 0 0 ∷ says 0 EXIT 0 0 0 0 2 ∷ []) ∷ []

-- "P3: WAIT list 3 all: status 1, elected 255. Outside SIGNAL 0 to task 0: still 255; SIGNAL 1: elected 0, events 3.
-- With any, the first signal elects 0."
abbrev P3 : List Run
P3 =
    ends_with 0 3 (says 0 WAIT 3 0 0 1 nobody ∷ says outside SIGNAL 0 0 0 0 nobody ∷ says outside SIGNAL 1 0 0 0 0 ∷ [])
    ∷ run (says 0 WAIT 3 1 0 1 nobody ∷ says outside SIGNAL 0 0 0 0 0 ∷ [])
    ∷ []

-- "P4: SEND (11, 3), (12, 9): 0; (13, 3): 17. RETRIEVE 16: 12, key 9. RETRIEVE 3: 11. Again: 18."
abbrev P4 : List Run
P4 =
    run
    (says 0 SEND 0 11 3 0 0
    ∷ says 0 SEND 0 12 9 0 0
    ∷ says 0 SEND 0 13 3 17 0
    ∷ gives 0 RETRIEVE 0 0 16 0 12 9 0
    ∷ gives 0 RETRIEVE 0 0 3 0 11 3 0
    ∷ says 0 RETRIEVE 0 0 3 18 0
    ∷ [])
    ∷ []

-- "P5: caller 1 with operation 10: 11; with operation 6: 12. Outside START: 13." "Status 11 now begins at operation 13, as does P5's first
-- case".
abbrev P5 : List Run
P5 =
    run (says 1 13 0 0 0 11 0 ∷ [])
    ∷ run (says 1 ENTER 0 0 0 12 0 ∷ [])
    ∷ run (says outside START 1 0 0 13 0 ∷ [])
    ∷ []

-- ---- "Order matters (O), own call first against outside SIGNAL of event 0 first."

-- "PO1: START 1, signal to 1: signal's status 0 or 15."
abbrev PO1 : List Run
PO1 =
    run (says 0 START 1 0 0 0 0 ∷ says outside SIGNAL 0 1 0 0 0 ∷ [])
    ∷ run (says outside SIGNAL 0 1 0 15 0 ∷ says 0 START 1 0 0 0 0 ∷ [])
    ∷ []

-- "PO2: after START 1, STOP 1, signal to 1: 15 or 0."
abbrev PO2 : List Run
PO2 =
    run (says 0 START 1 0 0 0 0 ∷ says 0 STOP 1 0 0 0 0 ∷ says outside SIGNAL 0 1 0 15 0 ∷ [])
    ∷ run (says 0 START 1 0 0 0 0 ∷ says outside SIGNAL 0 1 0 0 0 ∷ says 0 STOP 1 0 0 0 0 ∷ [])
    ∷ []

-- "PO3: END, signal to 0: 15 or 0."
abbrev PO3 : List Run
PO3 =
    run (says 0 END 0 0 0 0 nobody ∷ says outside SIGNAL 0 0 0 15 nobody ∷ [])
    ∷ run (says outside SIGNAL 0 0 0 0 0 ∷ says 0 END 0 0 0 0 nobody ∷ [])
    ∷ []

-- "PO4: WAIT 1 all, signal to 0: WAIT's status 1 or 0."
abbrev PO4 : List Run
PO4 =
    run (says 0 WAIT 1 0 0 1 nobody ∷ says outside SIGNAL 0 0 0 0 0 ∷ [])
    ∷ run (says outside SIGNAL 0 0 0 0 0 ∷ says 0 WAIT 1 0 0 0 0 ∷ [])
    ∷ []

-- "PO5: CLEAR 1, signal to 0: events 1 or 0."
abbrev PO5 : List Run
PO5 =
    ends_with 0 1 (says 0 CLEAR 1 0 0 0 0 ∷ says outside SIGNAL 0 0 0 0 0 ∷ [])
    ∷ ends_with 0 0 (says outside SIGNAL 0 0 0 0 0 ∷ says 0 CLEAR 1 0 0 0 0 ∷ [])
    ∷ []

abbrev rows : List (List Run)
rows = P1 ∷ P2 ∷ P3 ∷ P4 ∷ P5 ∷ PO1 ∷ PO2 ∷ PO3 ∷ PO4 ∷ PO5 ∷ []

-- to unfold these is to unfold all that the rules compute with
computing_words : Unit {0}
unfolding all every below padded column met arrive cleared woken signalled waited held later ahead smallest lowest is_best best_ready election displaced_by
computing_words = tt

computing_queues : Unit {0}
unfolding pairs front behind laid largest before place without queue_of
computing_queues = tt

computing_urgency : Unit {0}
unfolding closed_holders holds_open nobody_awaits states_with urgency_by region_urgency task_urgency urgencies line heir onward ends meets no_circle
computing_urgency = tt

computing_rules : Unit {0}
unfolding shaped counts_in_range priorities_in_range bounds_in_range lists_in_range operators_in_range holders_in_range criteria_in_range zero_past zero_past_counts
computing_rules = tt

computing_more_rules : Unit {0}
unfolding zero_past_lengths rest_right states_right entries_right one_holder holder_ready holder_elected lengths_right elected_right timer_right timers_right marks_in_range open_holders_right awaits_right valid
computing_more_rules = tt

computing_steps : Unit {0}
unfolding configuration_in_range fresh_table fresh missing wrong_state leaves inside closes_circle stops_holder reasons ringing ticked effect
computing_steps = tt

computing_quickly : Unit {0}
unfolding zero_behind zero_rest zero_rests way_ends ways_end quick_valid quick_step
computing_quickly = tt

unfoldable pub computing : Unit {0}
unfolding rows_right right begun right_from same_answer same_events computing_words computing_queues computing_urgency computing_rules computing_more_rules computing_steps computing_quickly
computing = tt

-- the one claim: antt computes every run of every row
pub ten_rows : rows_right rows step ≡ true
unfolding computing
ten_rows = computed (rows_right rows) refl

-- ---- T-01, sentence by sentence, from the same fresh table

-- "12 TICK, from the outside only": "status 13 lets TICK pass, a TICK from a task gets 12 if that task isn't elected and 13 if it is"
abbrev only_outside : List Run
only_outside =
    run (says outside TICK 0 0 0 0 0 ∷ says 1 TICK 0 0 0 12 0 ∷ says 0 TICK 0 0 0 13 0 ∷ says outside ARM 0 0 1 13 0 ∷ says outside DISARM 0 0 0 13 0 ∷ [])
    ∷ []

-- "Status 11 now begins at operation 13"; "14 covers timer and delay"; "delay 1 to 2147483647"
abbrev in_range : List Run
in_range =
    run
    (says 0 13 0 0 0 11 0
    ∷ says 0 ARM 16 0 1 14 0
    ∷ says 0 ARM 0 16 1 14 0
    ∷ says 0 ARM 0 0 0 14 0
    ∷ says 0 ARM 0 0 2147483648 14 0
    ∷ says 0 DISARM 16 0 0 14 0
    ∷ says 0 ARM 15 15 2147483647 0 0
    ∷ [])
    ∷ []

-- "signal me in 300 ticks", here in two; "arming again replaces"; two timers that are due at one tick
abbrev due_then : List Run
due_then =
    ends_with 0 0 (says 0 ARM 0 3 2 0 0 ∷ says outside TICK 0 0 0 0 0 ∷ [])
    ∷ ends_with 0 8 (says 0 ARM 0 3 2 0 0 ∷ says outside TICK 0 0 0 0 0 ∷ says outside TICK 0 0 0 0 0 ∷ [])
    ∷ ends_with 0 2 (says 0 ARM 0 3 2 0 0 ∷ says 0 ARM 0 1 1 0 0 ∷ says outside TICK 0 0 0 0 0 ∷ says outside TICK 0 0 0 0 0 ∷ [])
    ∷ ends_with 0 3 (says 0 ARM 0 0 1 0 0 ∷ says 0 ARM 7 1 1 0 0 ∷ says outside TICK 0 0 0 0 0 ∷ [])
    ∷ run (says 0 ARM 4 0 1 0 0 ∷ says 0 WAIT 1 0 0 1 nobody ∷ says outside TICK 0 0 0 0 0 ∷ [])
    ∷ []

-- "STOP and END disarm the task's timers"; "a timer that another task has armed gets 15; DISARM of an idle one changes nothing"
abbrev disarms : List Run
disarms =
    run (says 0 ARM 0 0 1 0 0 ∷ says 0 START 2 0 0 0 2 ∷ says 2 ARM 0 0 1 15 2 ∷ says 2 DISARM 0 0 0 15 2 ∷ says 2 DISARM 1 0 0 0 2 ∷ [])
    ∷ ends_with 0 0 (says 0 ARM 0 3 1 0 0 ∷ says 0 DISARM 0 0 0 0 0 ∷ says outside TICK 0 0 0 0 0 ∷ [])
    ∷ ends_with 0 0
    (says 0 ARM 0 3 1 0 0
    ∷ says 0 START 2 0 0 0 2
    ∷ says 2 STOP 0 0 0 0 2
    ∷ says 2 START 0 0 0 0 2
    ∷ says 2 ARM 0 5 1 0 2
    ∷ says outside TICK 0 0 0 0 2
    ∷ [])
    ∷ ends_with 0 0
    (says 0 ARM 0 3 1 0 0
    ∷ says 0 START 2 0 0 0 2
    ∷ says 2 WAIT 1 0 0 1 0
    ∷ says 0 END 0 0 0 0 nobody
    ∷ says outside SIGNAL 0 2 0 0 2
    ∷ says 2 START 0 0 0 0 2
    ∷ says 2 ARM 0 5 1 0 2
    ∷ says outside TICK 0 0 0 0 2
    ∷ [])
    ∷ []

pub timer_rows : rows_right (only_outside ∷ in_range ∷ due_then ∷ disarms ∷ []) step ≡ true
unfolding computing
timer_rows = computed (rows_right (only_outside ∷ in_range ∷ due_then ∷ disarms ∷ [])) refl

-- "The tick counter has 32 bits and starts again at 0; a timer is due when the counter, so wrapped, reaches its date": from the counter's last
-- number a delay of two ticks ends at 1; and at 0, which is the date in an idle timer, nothing rings
abbrev wrapped : List Run
wrapped =
    ends_with 0 0 (says 0 ARM 0 3 2 0 0 ∷ says outside TICK 0 0 0 0 0 ∷ [])
    ∷ ends_with 0 8 (says 0 ARM 0 3 2 0 0 ∷ says outside TICK 0 0 0 0 0 ∷ says outside TICK 0 0 0 0 0 ∷ [])
    ∷ ends_with 0 0 (says outside TICK 0 0 0 0 0 ∷ says outside TICK 0 0 0 0 0 ∷ [])
    ∷ []

-- the fresh table with the counter at its last number
abbrev at_last_tick : Table
at_last_tick = with_timers (tick_end - 1) begun.table.timers begun.table

pub wrapped_rows : every (right step at_last_tick) wrapped ≡ true
unfolding computing
wrapped_rows = computed (λ does. every (right does at_last_tick) wrapped) refl

-- ---- T-04, sentence by sentence

-- "Our record routine calls a helper that enters and exits the same region": it goes on protected, and the region is "free only at the
-- matching EXIT". Region 1 has a count of its own.
abbrev matching : List Run
matching =
    run
    (says 0 ENTER 0 0 0 0 0
    ∷ says 0 START 2 0 0 0 0
    ∷ says 0 ENTER 0 0 0 0 0
    ∷ says 0 ENTER 1 0 0 0 0
    ∷ says 0 EXIT 1 0 0 0 0
    ∷ says 0 EXIT 0 0 0 0 0
    ∷ says 0 EXIT 0 0 0 0 2
    ∷ [])
    ∷ []

pub entry_rows : rows_right (matching ∷ []) step ≡ true
unfolding computing
entry_rows = computed (rows_right (matching ∷ [])) refl

-- calls from the fresh table on where this is said of region 0
pub record Given : Type 0 where
  pub region : Region
  pub says : List Said

abbrev given : ℕ → ℕ → List Said → Given
given holder entries calls = record { region = record { holder = holder; entries = entries }; says = calls }

pub right_given : Does → Given → Bool
right_given does g = right_from does (with_region 0 g.region begun.table) g.says []

-- "1 to 255": the 255th ENTER is accepted; "the 256th ENTER gets 22", that of another region doesn't, and EXIT makes room again
abbrev last_entries : Given
last_entries =
    given 1 254
    (says 0 ENTER 0 0 0 0 0 ∷ says 0 ENTER 0 0 0 22 0 ∷ says 0 ENTER 1 0 0 0 0 ∷ says 0 EXIT 0 0 0 0 0 ∷ says 0 ENTER 0 0 0 0 0 ∷ [])

-- "A free region has count 0", and a held one has not: else the table is not valid
abbrev wrong_entries : List Given
wrong_entries = given 0 1 (says 0 ENTER 0 0 0 10 nobody ∷ []) ∷ given 1 0 (says 0 ENTER 0 0 0 10 nobody ∷ []) ∷ []

pub entry_ends : every (right_given step) (last_entries ∷ wrong_entries) ≡ true
unfolding computing right_given
entry_ends = computed (λ does. every (right_given does) (last_entries ∷ wrong_entries)) refl

-- ---- T-06, sentence by sentence

-- "EXIT of a region that the caller doesn't hold now gets 23": one never entered, and one left once too often. It "changes nothing": the region
-- is entered and left as before, and one that is held stays held. A region that doesn't exist is 14 as before; a task that isn't elected and
-- the outside hear that first.
abbrev unentered : List Run
unentered =
    run (says 0 EXIT 0 0 0 23 0 ∷ says 0 EXIT 2 0 0 14 0 ∷ says 0 ENTER 0 0 0 0 0 ∷ says 0 EXIT 0 0 0 0 0 ∷ says 0 EXIT 0 0 0 23 0 ∷ [])
    ∷ run
    (says 0 ENTER 0 0 0 0 0
    ∷ says 0 EXIT 1 0 0 23 0
    ∷ says 0 START 2 0 0 0 0
    ∷ says 2 EXIT 0 0 0 12 0
    ∷ says outside EXIT 0 0 0 13 0
    ∷ says 0 EXIT 0 0 0 0 2
    ∷ says 2 EXIT 0 0 0 23 2
    ∷ [])
    ∷ []

pub exit_rows : rows_right (unentered ∷ []) step ≡ true
unfolding computing
exit_rows = computed (rows_right (unentered ∷ [])) refl

-- ---- T-08: "the former elected task if it is still ready and no longer elected, else 255"

-- task 0, pushed aside by START and by a signal; nobody where the former one waits or has ended, where it stays elected, and where nobody was
-- elected
abbrev pushed : List Run
pushed =
    run
    (aside 0 START 2 0 0 0 2 0
    ∷ aside 2 WAIT 1 0 0 1 0 nobody
    ∷ aside outside SIGNAL 0 2 0 0 2 0
    ∷ aside 2 END 0 0 0 0 0 nobody
    ∷ aside 0 START 1 0 0 0 0 nobody
    ∷ aside 0 END 0 0 0 0 1 nobody
    ∷ aside 1 WAIT 1 0 0 1 nobody nobody
    ∷ aside outside SIGNAL 0 1 0 0 1 nobody
    ∷ aside 1 STOP 1 0 0 0 nobody nobody
    ∷ [])
    ∷ []

-- inside a region nobody is pushed aside, and its holder is at the last EXIT; a tick pushes aside as a signal does; "a refusal gives 255"
abbrev held_off : List Run
held_off =
    run
    (aside 0 ENTER 0 0 0 0 0 nobody
    ∷ aside 0 START 2 0 0 0 0 nobody
    ∷ aside 2 CLEAR 1 0 0 12 0 nobody
    ∷ aside 0 EXIT 0 0 0 0 2 0
    ∷ aside 2 ARM 0 0 1 0 2 nobody
    ∷ aside 2 WAIT 1 0 0 1 0 nobody
    ∷ aside 0 SEND 0 11 3 0 0 nobody
    ∷ aside outside TICK 0 0 0 0 2 0
    ∷ aside 0 EXIT 0 0 0 12 2 nobody
    ∷ aside 2 EXIT 0 0 0 23 2 nobody
    ∷ [])
    ∷ []

pub displaced_rows : rows_right (pushed ∷ held_off ∷ []) step ≡ true
unfolding computing
displaced_rows = computed (rows_right (pushed ∷ held_off ∷ [])) refl
