-- Demand 3 at work and at its edge, and the programs that satisfy it alone: all computed.
use Rattle.std.specs.Prelude.{ℕ, ◌≡◌, ◌≢◌, true}
use mathlib.Core.List.{List, [], ◌∷◌, Permᴰ}
use Rattle.rules.specs.declared.Table.{Table}
use Rattle.rules.specs.declared.Call.{Call}
use Rattle.rules.specs.declared.Answer.{Answer}
use Rattle.rules.specs.declared.Done.{Done}
use Rattle.rules.specs.Numbers.{nobody, START, WAIT, ENTER, EXIT, SEND, ARM, DISARM}
use Rattle.rules.specs.Tasks.{waiting}
use Rattle.rules.specs.Regions.{handed}
use Rattle.rules.specs.Tables.{task_of, region_of, timer_of, with_timers}
use Rattle.rules.specs.Validity.{valid}
use Rattle.rules.specs.Answers.{refused}
use Rattle.rules.specs.Fresh.{fresh_table}
use Rattle.rules.specs.Step.{step}
use Rattle.theorems.specs.Happenings.{Outer, signal, tick, Happening, outside, own, run, calls, outers, call_replies, outer_statuses, InTurn, Free, Demand3By}
use Rattle.theorems.specs.Kept.{after_all}

-- "priorities 5, 5, 2, two regions, one queue of bound 2"; both regions closed
abbrev pub begun : Table
begun = fresh_table 3 2 1 (5 ∷ 5 ∷ 2 ∷ []) (2 ∷ []) (0 ∷ 0 ∷ [])

abbrev pub by : ℕ → ℕ → ℕ → ℕ → ℕ → Call
by caller operation a b c = record { caller = caller; operation = operation; a = a; b = b; c = c }

abbrev pub event : ℕ → ℕ → Outer
event e i = signal (record { event = e; task = i; unread_c = 0 })

abbrev pub a_tick : Outer
a_tick = tick (record { unread_a = 0; unread_b = 0; unread_c = 0 })

-- ---- two signals and two calls, arranged in two ways: the same end

abbrev pub one_way : List Happening
one_way = outside (event 0 0) ∷ own (by 0 ENTER 0 0 0) ∷ outside (event 1 0) ∷ own (by 0 SEND 0 7 3) ∷ []

abbrev pub other_way : List Happening
other_way = own (by 0 ENTER 0 0 0) ∷ outside (event 1 0) ∷ own (by 0 SEND 0 7 3) ∷ outside (event 0 0) ∷ []

-- what demand 3 asks for
pub record Premise (t : Table) (xs ys : List Happening) : Type 0 where
  pub is_valid : valid t ≡ true
  pub free : Free (calls xs)
  pub same_calls : calls xs ≡ calls ys
  pub same_outers : Permᴰ (outers xs) (outers ys)
  pub first_in_turn : InTurn step t xs
  pub then_in_turn : InTurn step t ys

abbrev pub SameEnd : Type 0
SameEnd = Premise begun one_way other_way × (run step begun one_way ≡ run step begun other_way)

-- ---- two ticks, over the end of the counter, among a signal and two calls: the same end, and the delay is over

-- the counter at its last number, and a timer of task 0 for its event 3 in two ticks
abbrev pub counting : Table
counting = (step (with_timers 4294967295 begun.timers begun) (by 0 ARM 5 3 2)).table

abbrev pub ticks_first : List Happening
ticks_first = outside a_tick ∷ outside a_tick ∷ own (by 0 ENTER 0 0 0) ∷ outside (event 1 0) ∷ own (by 0 SEND 0 7 3) ∷ []

abbrev pub ticks_later : List Happening
ticks_later = own (by 0 ENTER 0 0 0) ∷ outside (event 1 0) ∷ outside a_tick ∷ own (by 0 SEND 0 7 3) ∷ outside a_tick ∷ []

abbrev pub SameEndTicking : Type 0
SameEndTicking =
    Premise counting ticks_first ticks_later
    × (run step counting ticks_first ≡ run step counting ticks_later)
    × ((timer_of counting 5).date ≡ 1)
    × ((run step counting ticks_first).ticks ≡ 1)
    × ((task_of (run step counting ticks_first) 0).arrived ≡ 10)
    × ((task_of (run step counting ticks_later) 0).arrived ≡ 10)

-- ---- a signal that wakes a task, inside a region: it is elected at the last EXIT

-- task 2, more urgent, waits for its event 0
abbrev pub waits : Table
waits = after_all begun (by 0 START 2 0 0 ∷ by 2 WAIT 1 0 0 ∷ [])

abbrev pub wakes_first : List Happening
wakes_first = own (by 0 ENTER 0 0 0) ∷ outside (event 0 2) ∷ own (by 0 SEND 0 7 3) ∷ own (by 0 EXIT 0 0 0) ∷ []

abbrev pub wakes_later : List Happening
wakes_later = own (by 0 ENTER 0 0 0) ∷ own (by 0 SEND 0 7 3) ∷ outside (event 0 2) ∷ own (by 0 EXIT 0 0 0) ∷ []

abbrev pub SameEndWaking : Type 0
SameEndWaking =
    Premise waits wakes_first wakes_later
    × (run step waits wakes_first ≡ run step waits wakes_later)
    × ((task_of waits 2).state ≡ waiting)
    × ((run step waits wakes_first).elected ≡ 2)

-- ---- a signal to a task that waits for an open region, or before it waits: an ENTER that suspends and an EXIT that hands on pass it

-- region 0 is open and task 0's; task 2, more urgent, is elected
abbrev pub sharing : Table
sharing = after_all (fresh_table 3 2 1 (5 ∷ 5 ∷ 2 ∷ []) (2 ∷ []) (1 ∷ 0 ∷ [])) (by 0 ENTER 0 0 0 ∷ by 0 START 2 0 0 ∷ [])

abbrev pub signal_in_line : List Happening
signal_in_line = own (by 2 ENTER 0 0 0) ∷ outside (event 0 2) ∷ own (by 0 EXIT 0 0 0) ∷ own (by 2 SEND 0 7 3) ∷ []

abbrev pub signal_before : List Happening
signal_before = outside (event 0 2) ∷ own (by 2 ENTER 0 0 0) ∷ own (by 0 EXIT 0 0 0) ∷ own (by 2 SEND 0 7 3) ∷ []

-- the ENTER gets 1, and behind the EXIT task 2 holds the region and is elected
abbrev pub SameEndInLine : Type 0
SameEndInLine =
    Premise sharing signal_in_line signal_before
    × (run step sharing signal_in_line ≡ run step sharing signal_before)
    × ((step sharing (by 2 ENTER 0 0 0)).answer.status ≡ 1)
    × (region_of (run step sharing signal_in_line) 0 ≡ handed 2)
    × ((run step sharing signal_in_line).elected ≡ 2)

-- ---- "Demand 3 doesn't: who is displaced depends on the order": the same end, and the EXIT displaces task 0 or nobody

abbrev pub signal_inside : List Happening
signal_inside = own (by 0 ENTER 0 0 0) ∷ outside (event 0 2) ∷ own (by 0 EXIT 0 0 0) ∷ []

abbrev pub signal_behind : List Happening
signal_behind = own (by 0 ENTER 0 0 0) ∷ own (by 0 EXIT 0 0 0) ∷ outside (event 0 2) ∷ []

abbrev pub OthersDisplaced : Type 0
OthersDisplaced =
    Premise waits signal_inside signal_behind
    × (run step waits signal_inside ≡ run step waits signal_behind)
    × ((step (run step waits (own (by 0 ENTER 0 0 0) ∷ outside (event 0 2) ∷ [])) (by 0 EXIT 0 0 0)).answer.displaced ≡ 0)
    × ((step (run step waits (own (by 0 ENTER 0 0 0) ∷ [])) (by 0 EXIT 0 0 0)).answer.displaced ≡ nobody)

-- ---- a signal that elects another task at once, and one that is refused: task 1 is stopped

abbrev pub elects_first : List Happening
elects_first = outside (event 0 2) ∷ outside (event 0 1) ∷ own (by 2 SEND 0 7 3) ∷ []

abbrev pub elects_later : List Happening
elects_later = outside (event 0 1) ∷ outside (event 0 2) ∷ own (by 2 SEND 0 7 3) ∷ []

abbrev pub SameEndElecting : Type 0
SameEndElecting =
    Premise waits elects_first elects_later
    × (run step waits elects_first ≡ run step waits elects_later)
    × (waits.elected ≡ 0)
    × ((run step waits elects_first).elected ≡ 2)
    × (outer_statuses step waits elects_first ≡ 0 ∷ 15 ∷ [])
    × (outer_statuses step waits elects_later ≡ 15 ∷ 0 ∷ [])

-- ---- a signal that elects another task: a call of the former behind it is not in turn, and is refused

abbrev pub early : List Happening
early = own (by 0 SEND 0 7 3) ∷ outside (event 0 2) ∷ []

abbrev pub late : List Happening
late = outside (event 0 2) ∷ own (by 0 SEND 0 7 3) ∷ []

abbrev pub NotInTurn : Type 0
NotInTurn = InTurn step waits early × (InTurn step waits late → ⊥) × (call_replies step waits early ≢ call_replies step waits late)

-- ---- a call that SIGNAL's row marks +: the signal's status differs

abbrev pub NotFree : Type 0
NotFree =
    outer_statuses step begun (own (by 0 START 1 0 0) ∷ outside (event 0 1) ∷ [])
    ≢ outer_statuses step begun (outside (event 0 1) ∷ own (by 0 START 1 0 0) ∷ [])

-- ---- "no ARM or DISARM": behind the ARM the tick is the last of its delay, before it the timer has that tick to come

abbrev pub NotPastArm : Type 0
NotPastArm =
    (task_of (run step begun (own (by 0 ARM 0 0 1) ∷ outside a_tick ∷ [])) 0).arrived
    ≢ (task_of (run step begun (outside a_tick ∷ own (by 0 ARM 0 0 1) ∷ [])) 0).arrived

abbrev pub NotPastDisarm : Type 0
NotPastDisarm =
    (task_of (run step begun (own (by 0 ARM 0 0 1) ∷ own (by 0 DISARM 0 0 0) ∷ outside a_tick ∷ [])) 0).arrived
    ≢ (task_of (run step begun (own (by 0 ARM 0 0 1) ∷ outside a_tick ∷ own (by 0 DISARM 0 0 0) ∷ [])) 0).arrived

-- ---- "The program that only refuses, the one with a fixed answer, and the one that hands the table back untouched all satisfy demand 3 taken alone"

abbrev pub OnlyRefusingPasses : Type 0
OnlyRefusingPasses = (status : Table → Call → ℕ) → Demand3By (λ t c. refused t (status t c))

-- one table and one answer, whatever is called
abbrev pub FixedPasses : Type 0
FixedPasses = (d : Done) → Demand3By (λ t c. d)

abbrev pub UntouchedPasses : Type 0
UntouchedPasses = (f : Table → Call → Done) → ((t : Table) (c : Call) → (f t c).table ≡ t) → Demand3By f

-- ---- "demand 2 shuts each out"

abbrev pub Meets : (Table → Call → Done) → Type 0
Meets f = (t : Table) (c : Call) → f t c ≡ step t c

-- one that only refuses, whatever statuses it gives
abbrev pub NotOnlyRefusing : Type 0
NotOnlyRefusing =
    (status : Table → Call → ℕ) → ((t : Table) (c : Call) → status t c ≢ 0) → Meets (λ t c. refused t (status t c)) → ⊥

-- one with a fixed answer, whatever it does to the table
abbrev pub NotFixed : Type 0
NotFixed = (f : Table → Call → Done) (a : Answer) → ((t : Table) (c : Call) → (f t c).answer ≡ a) → Meets f → ⊥

-- one that hands the table back untouched, whatever it answers
abbrev pub NotUntouched : Type 0
NotUntouched = (f : Table → Call → Done) → ((t : Table) (c : Call) → (f t c).table ≡ t) → Meets f → ⊥
