-- Timers: one that is due signals its task's event and is disarmed; a delay of so many ticks ends at the last of them, wherever the counter stands.
use Rattle.std.specs.Prelude.{ℕ, suc, ◌<◌, ◌≡◌, ◌⊎◌, Bool, true, false, cond, ◌&&◌, ◌||◌, List, [], ◌∷◌, eqb}
use Rattle.rules.specs.declared.Table.{Table}
use Rattle.rules.specs.declared.Call.{Call}
use Rattle.rules.specs.Numbers.{outside, STOP, END, ARM, DISARM, TICK}
use Rattle.rules.specs.Timers.{later, idle, as_armed, is_due}
use Rattle.rules.specs.Tables.{timer_of}
use Rattle.rules.specs.Validity.{valid}
use Rattle.rules.specs.Refusals.{refusal}
use Rattle.rules.specs.Step.{step}
use Rattle.theorems.specs.Kept.{after_all}
use Rattle.lasting_theorems.specs.Lasting.{arrived_at, Remembered}

-- a TICK from the outside
abbrev pub is_tick : Call → Bool
is_tick c = eqb c.operation TICK && eqb c.caller outside

-- timer i is due at the next tick
abbrev pub due_next : Table → ℕ → Bool
due_next t i = is_due (later t.ticks 1) (timer_of t i)

-- ---- one tick

-- "It then signals its task's event and is disarmed", each of those that are due, also where two name one event
abbrev pub DueRings : Type 0
DueRings =
    (t : Table) (c : Call) (i : ℕ) → valid t ≡ true → is_tick c ≡ true → due_next t i ≡ true
    → (arrived_at (step t c).table (timer_of t i).event (timer_of t i).owner ≡ true) × (timer_of (step t c).table i ≡ idle)

-- one that is not due stays as it is
abbrev pub OthersStay : Type 0
OthersStay =
    (t : Table) (c : Call) (i : ℕ) → valid t ≡ true → is_tick c ≡ true → due_next t i ≡ false → timer_of (step t c).table i ≡ timer_of t i

-- and no event arrives by a tick but those of the timers that are due
abbrev pub OnlyDueRings : Type 0
OnlyDueRings =
    (t : Table) (c : Call) (e task : ℕ) → valid t ≡ true → is_tick c ≡ true → arrived_at (step t c).table e task ≡ true
    → (arrived_at t e task ≡ true) ⊎ ((i : ℕ) × (due_next t i ≡ true) × ((timer_of t i).event ≡ e) × ((timer_of t i).owner ≡ task))

-- the event stays, as a signal's does
abbrev pub NoRingLost : Type 0
NoRingLost =
    (t : Table) (c : Call) (i : ℕ) (cs : List Call) → valid t ≡ true → is_tick c ≡ true → due_next t i ≡ true
    → Remembered (timer_of t i).event (timer_of t i).owner cs
    → arrived_at (after_all (step t c).table cs) (timer_of t i).event (timer_of t i).owner ≡ true

-- ---- a delay

-- the calls that may disarm or replace timer i of a task: the task's ARM and DISARM of it, its END, a STOP of it
unfoldable pub disturbs : ℕ → ℕ → Call → Bool
disturbs i task c =
    ((eqb c.operation ARM || eqb c.operation DISARM) && (eqb c.a i && eqb c.caller task))
    || ((eqb c.operation END && eqb c.caller task)
    || (eqb c.operation STOP && eqb c.a task))

abbrev pub LeftAlone : ℕ → ℕ → List Call → Type 0
LeftAlone i task [] = Unit {0}
LeftAlone i task (c ∷ cs) = (disturbs i task c ≡ false) × LeftAlone i task cs

-- how many of the calls are ticks
abbrev pub ticks_in : List Call → ℕ
ticks_in [] = 0
ticks_in (c ∷ cs) = cond (is_tick c) (suc (ticks_in cs)) (ticks_in cs)

-- after the ARM c, and calls with fewer ticks among them than its delay
pub record Delayed (t : Table) (c : Call) (cs : List Call) : Type 0 where
  -- the timer is armed as the call says
  pub armed : timer_of (after_all (step t c).table cs) c.a ≡ as_armed c.caller c.b (later t.ticks c.c) idle
  -- it is due at the next tick exactly if that is the last of the delay
  pub due : due_next (after_all (step t c).table cs) c.a ≡ eqb (suc (ticks_in cs)) c.c
  -- and by that tick its event arrives
  pub rings : (k : Call) → is_tick k ≡ true → suc (ticks_in cs) ≡ c.c
      → arrived_at (step (after_all (step t c).table cs) k).table c.b c.caller ≡ true

-- "signal me in 300 ticks": whatever else is called in between, but what disarms or replaces the timer
abbrev pub DelayKept : Type 0
DelayKept =
    (t : Table) (c : Call) (cs : List Call) → refusal t c ≡ 0 → c.operation ≡ ARM → LeftAlone c.a c.caller cs → ticks_in cs < c.c
    → Delayed t c cs
