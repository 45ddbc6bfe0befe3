-- Demand 3 over blocks: the words of demand 3, said of the block, of the numbers that are answered, and of the elected byte.
use Rattle.std.specs.Prelude.{ℕ, ◌≡◌, true, false, get_or}
use mathlib.Core.List.{List, [], ◌∷◌, map, Permᴰ}
use Rattle.rules.specs.Words.{every}
use Rattle.theorems.specs.Happenings.{Outer, Happening, outside, own, outer_call, call_of, calls, outers, Reply, Free}
use Rattle.layout.specs.Layout.{is_table}
use Rattle.layout.specs.Calls.{call_block}
use Rattle.block_theorems.specs.Ranges.{are_bytes, call_in_range}
use Rattle.block_theorems.specs.Answers.{status_in, key_in, value_in}

abbrev pub run : List ℕ → List Happening → List ℕ
run block [] = block
run block (x ∷ xs) = run (call_block block (call_of x)).block xs

-- status, element and criterion, in an answer's number
abbrev pub reply_in : ℕ → Reply
reply_in n = record { status = status_in n; value = value_in n; key = key_in n }

abbrev pub call_replies : List ℕ → List Happening → List Reply
call_replies block [] = []
call_replies block (outside o ∷ xs) = call_replies (call_block block (outer_call o)).block xs
call_replies block (own c ∷ xs) = reply_in (call_block block c).answer ∷ call_replies (call_block block c).block xs

-- the status that a signal or a tick gets if it comes first
abbrev pub status_first : List ℕ → Outer → ℕ
status_first block o = status_in (call_block block (outer_call o)).answer

abbrev pub outer_statuses : List ℕ → List Happening → List ℕ
outer_statuses block [] = []
outer_statuses block (outside o ∷ xs) = status_first block o ∷ outer_statuses (call_block block (outer_call o)).block xs
outer_statuses block (own c ∷ xs) = outer_statuses (call_block block c).block xs

-- the place of the elected task in a block
abbrev pub elected_place : ℕ
elected_place = 3

-- each caller is the elected task when its call's turn comes
abbrev pub InTurn : List ℕ → List Happening → Type 0
InTurn block [] = Unit {0}
InTurn block (outside o ∷ xs) = InTurn (call_block block (outer_call o)).block xs
InTurn block (own c ∷ xs) = (c.caller ≡ get_or block elected_place 0) × InTurn (call_block block c).block xs

-- ---- the statement

-- the same block, byte for byte; the same replies; and to each signal and tick the status that it gets if it comes first
abbrev pub Agree : List ℕ → List Happening → List Happening → Type 0
Agree block xs ys =
    (run block xs ≡ run block ys)
    × (call_replies block xs ≡ call_replies block ys)
    × (outer_statuses block xs ≡ map (status_first block) (outers xs))
    × (outer_statuses block ys ≡ map (status_first block) (outers ys))

-- the same calls in the same order, the same signals and as many ticks in any order
abbrev pub Demand3Blocks : Type 0
Demand3Blocks =
    (block : List ℕ) (xs ys : List Happening) → are_bytes block ≡ true
    → is_table block ≡ true
    → every call_in_range (calls xs) ≡ true
    → Free (calls xs)
    → calls xs ≡ calls ys
    → Permᴰ (outers xs) (outers ys)
    → InTurn block xs
    → InTurn block ys
    → Agree block xs ys

-- a block that is not accepted needs no premise but the same calls
abbrev pub Demand3Damaged : Type 0
Demand3Damaged = (block : List ℕ) (xs ys : List Happening) → is_table block ≡ false → calls xs ≡ calls ys → Agree block xs ys
