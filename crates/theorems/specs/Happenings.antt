-- Demand 3: what comes from outside, signals and ticks, changes places with the calls that SIGNAL's row marks -, and with each other.
use Rattle.std.specs.Prelude.{ℕ, ◌≡◌, true, false}
use mathlib.Core.List.{List, [], ◌∷◌, map, Permᴰ}
use Rattle.rules.specs.declared.Table.{Table}
use Rattle.rules.specs.declared.Call.{Call}
use Rattle.rules.specs.declared.Answer.{Answer}
use Rattle.rules.specs.declared.Done.{Done}
use Rattle.rules.specs.Numbers.{outside as outside_number, SIGNAL, TICK}
use Rattle.rules.specs.Validity.{valid}
use Rattle.rules.specs.Step.{step}
use Rattle.exclusion.specs.Marks.{passes_signal}

-- ---- what happens: signals and ticks from outside, and calls of the tasks

-- a SIGNAL lists a and b, a TICK nothing: the other numbers "are not read", and may be any
pub record Signal : Type 0 where
  pub event : ℕ
  pub task : ℕ
  pub unread_c : ℕ

pub record Tick : Type 0 where
  pub unread_a : ℕ
  pub unread_b : ℕ
  pub unread_c : ℕ

pub data Outer : Type 0 where
  signal : Signal → Outer
  tick : Tick → Outer

pub data Happening : Type 0 where
  outside : Outer → Happening
  own : Call → Happening

abbrev pub outer_call : Outer → Call
outer_call (signal s) = record { caller = outside_number; operation = SIGNAL; a = s.event; b = s.task; c = s.unread_c }
outer_call (tick n) = record { caller = outside_number; operation = TICK; a = n.unread_a; b = n.unread_b; c = n.unread_c }

abbrev pub call_of : Happening → Call
call_of (outside o) = outer_call o
call_of (own c) = c

-- the calls in their order, and what comes from outside in its order
abbrev pub calls : List Happening → List Call
calls [] = []
calls (outside o ∷ xs) = calls xs
calls (own c ∷ xs) = c ∷ calls xs

abbrev pub outers : List Happening → List Outer
outers [] = []
outers (outside o ∷ xs) = o ∷ outers xs
outers (own c ∷ xs) = outers xs

-- "the calls that SIGNAL's row marks `-`": "no ARM or DISARM", which the table doesn't name
abbrev pub Free : List Call → Type 0
Free [] = Unit {0}
Free (c ∷ cs) = (passes_signal c.operation ≡ true) × Free cs

-- status, element and criterion
pub record Reply : Type 0 where
  pub status : ℕ
  pub value : ℕ
  pub key : ℕ

abbrev pub reply : Answer → Reply
reply a = record { status = a.status; value = a.value; key = a.key }

-- ---- the run of a program: what it makes of a table for one call, and what it answers

module _ (program : Table → Call → Done) where
  abbrev pub run : Table → List Happening → Table
  run t [] = t
  run t (x ∷ xs) = run (program t (call_of x)).table xs

  abbrev pub call_replies : Table → List Happening → List Reply
  call_replies t [] = []
  call_replies t (outside o ∷ xs) = call_replies (program t (outer_call o)).table xs
  call_replies t (own c ∷ xs) = reply (program t c).answer ∷ call_replies (program t c).table xs

  -- the status that a signal or a tick gets if it comes first
  abbrev pub status_first : Table → Outer → ℕ
  status_first t o = (program t (outer_call o)).answer.status

  abbrev pub outer_statuses : Table → List Happening → List ℕ
  outer_statuses t [] = []
  outer_statuses t (outside o ∷ xs) = status_first t o ∷ outer_statuses (program t (outer_call o)).table xs
  outer_statuses t (own c ∷ xs) = outer_statuses (program t c).table xs

  -- each caller is the elected task when its call's turn comes
  abbrev pub InTurn : Table → List Happening → Type 0
  InTurn t [] = Unit {0}
  InTurn t (outside o ∷ xs) = InTurn (program t (outer_call o)).table xs
  InTurn t (own c ∷ xs) = (c.caller ≡ t.elected) × InTurn (program t c).table xs

  -- ---- the statement

  -- the same table, in which the elected task, the timers and the counter stand; the same replies; and to each signal and tick the status
  -- that it gets if it comes first
  abbrev pub Agree : Table → List Happening → List Happening → Type 0
  Agree t xs ys =
      (run t xs ≡ run t ys)
      × (call_replies t xs ≡ call_replies t ys)
      × (outer_statuses t xs ≡ map (status_first t) (outers xs))
      × (outer_statuses t ys ≡ map (status_first t) (outers ys))

  -- the same calls in the same order, the same signals and as many ticks in any order
  abbrev pub Demand3By : Type 0
  Demand3By =
      (t : Table) (xs ys : List Happening) → valid t ≡ true
      → Free (calls xs)
      → calls xs ≡ calls ys
      → Permᴰ (outers xs) (outers ys)
      → InTurn t xs
      → InTurn t ys
      → Agree t xs ys

-- of demand 2's steps
abbrev pub Demand3 : Type 0
Demand3 = Demand3By step

-- a table that is not valid needs no premise but the same calls
abbrev pub Demand3Damaged : Type 0
Demand3Damaged = (t : Table) (xs ys : List Happening) → valid t ≡ false → calls xs ≡ calls ys → Agree step t xs ys

-- a tick that comes first is accepted
abbrev pub TickAccepted : Type 0
TickAccepted = (t : Table) (n : Tick) → valid t ≡ true → status_first step t (tick n) ≡ 0
