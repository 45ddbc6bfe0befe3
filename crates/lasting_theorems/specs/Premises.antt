-- The premises of the lasting theorems, met: for each an example from document 01's fresh table, so that none speaks of nothing.
use Rattle.std.specs.Prelude.{◌<◌, ◌≡◌, true, List, [], ◌∷◌, get_or}
use Rattle.rules.specs.declared.Table.{Table}
use Rattle.rules.specs.declared.Call.{Call}
use Rattle.rules.specs.Numbers.{outside, START, SIGNAL, CLEAR, ENTER, EXIT, SEND, ARM, TICK}
use Rattle.rules.specs.Tasks.{suspended}
use Rattle.rules.specs.Regions.{occupied, held_by, handed}
use Rattle.rules.specs.Tables.{region_of, states_of, closed_of}
use Rattle.rules.specs.Validity.{valid}
use Rattle.rules.specs.Fresh.{fresh_table}
use Rattle.rules.specs.Refusals.{refusal}
use Rattle.rules.specs.Step.{step}
use Rattle.theorems.specs.Kept.{after_all}
use Rattle.theorems.specs.Running.{Inside}
use Rattle.theorems.specs.Urgency.{urgency_of, WaitsFor}
use Rattle.lasting_theorems.specs.Lasting.{Remembered}
use Rattle.lasting_theorems.specs.Balanced.{Routine, InItsTurn}
use Rattle.lasting_theorems.specs.Delays.{LeftAlone, ticks_in, Delayed}
use Rattle.lasting_theorems.specs.Examples.{begun, by}

-- ---- a signal that is kept (`NoSignalLost`): event 3 of task 0, past a CLEAR of its event 2, a start and a more urgent task's call

abbrev pub signal3 : Call
signal3 = by outside SIGNAL 3 0 0

abbrev pub behind_signal : List Call
behind_signal = by 0 CLEAR 4 0 0 ∷ by 0 START 2 0 0 ∷ by 2 CLEAR 8 0 0 ∷ []

abbrev pub SignalKept : Type 0
SignalKept = (refusal begun signal3 ≡ 0) × (signal3.operation ≡ SIGNAL) × Remembered 3 0 behind_signal

-- ---- a delay that rings (`DelayKept`): timer 5 of task 0 in two ticks, with a tick and a start between

abbrev pub arm : Call
arm = by 0 ARM 5 3 2

abbrev pub behind_arm : List Call
behind_arm = by outside TICK 0 0 0 ∷ by 0 START 2 0 0 ∷ []

abbrev pub DelayRings : Type 0
DelayRings = (refusal begun arm ≡ 0) × (arm.operation ≡ ARM) × LeftAlone 5 0 behind_arm × (ticks_in behind_arm < 2) × Delayed begun arm behind_arm

-- ---- a routine that stays protected (`StillHeld`), and a holder that stays (`HolderStays`)

-- task 0 holds region 0
abbrev pub holding : Table
holding = (step begun (by 0 ENTER 0 0 0)).table

-- the helper enters and exits region 0, and in between half a record is sent, a more urgent task started and signalled
abbrev pub helper : List Call
helper = by 0 ENTER 0 0 0 ∷ by 0 SEND 0 7 3 ∷ by 0 START 2 0 0 ∷ by outside SIGNAL 0 2 0 ∷ by 0 EXIT 0 0 0 ∷ []

abbrev pub RoutineProtected : Type 0
RoutineProtected = (valid holding ≡ true) × (held_by 0 (region_of holding 0) ≡ true) × Routine holding 0 0 helper

abbrev pub HolderKept : Type 0
HolderKept = (valid holding ≡ true) × (occupied (closed_of holding) ≡ true) × Inside holding helper × ((after_all holding helper).elected ≡ 0)

-- ---- a task in the line of an open region (`HolderUrgent`, `HandedOn`, `SignalRecorded`), and a routine in it (`StillHeldInTurn`)

-- the same configuration with region 0 open; task 0 of priority 5 holds it, and the more urgent task 2 waits for it
abbrev pub lined : Table
lined = after_all (fresh_table 3 2 1 (5 ∷ 5 ∷ 2 ∷ []) (2 ∷ []) (1 ∷ 0 ∷ [])) (by 0 ENTER 0 0 0 ∷ by 0 START 2 0 0 ∷ by 2 ENTER 0 0 0 ∷ [])

-- task 2 is in state 3, and task 0 runs with the urgency of the task that it holds up
abbrev pub BorrowsUrgency : Type 0
BorrowsUrgency =
    (valid lined ≡ true)
    × WaitsFor lined 2 0
    × (get_or (states_of lined) 2 0 ≡ suspended)
    × (urgency_of lined 0 ≡ 2)
    × (get_or lined.priority 0 0 ≡ 5)
    × (lined.elected ≡ 0)

-- by its EXIT the region is task 2's
abbrev pub HandsOver : Type 0
HandsOver = (region_of (step lined (by 0 EXIT 0 0 0)).table 0 ≡ handed 2) × ((step lined (by 0 EXIT 0 0 0)).table.elected ≡ 2)

-- a helper of task 0 enters and exits it once more
abbrev pub open_helper : List Call
open_helper = by 0 ENTER 0 0 0 ∷ by outside SIGNAL 0 2 0 ∷ by 0 EXIT 0 0 0 ∷ []

abbrev pub OpenRoutine : Type 0
OpenRoutine = (held_by 0 (region_of lined 0) ≡ true) × Routine lined 0 0 open_helper × InItsTurn 0 0 lined open_helper
