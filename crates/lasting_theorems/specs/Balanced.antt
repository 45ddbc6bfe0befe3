-- "A region .. is free only at the matching EXIT": a routine that enters and exits a region which its caller holds leaves it held.
use Rattle.std.specs.Prelude.{ℕ, suc, ◌-◌, ◌≡◌, ◌↔◌, Bool, true, false, cond, ◌&&◌, ◌||◌, List, [], ◌∷◌, ◌++◌, eqb, ltb, get_or}
use Rattle.rules.specs.declared.Table.{Table}
use Rattle.rules.specs.declared.Call.{Call}
use Rattle.rules.specs.Numbers.{most_entries, ENTER, EXIT}
use Rattle.rules.specs.Words.{is_zero, every}
use Rattle.rules.specs.Regions.{held_by}
use Rattle.rules.specs.Urgency.{is_open}
use Rattle.rules.specs.Tables.{region_of}
use Rattle.rules.specs.Validity.{valid}
use Rattle.rules.specs.Step.{step}
use Rattle.theorems.specs.Kept.{after_all}

-- an ENTER of region r by this task, and an EXIT
abbrev pub enters : ℕ → ℕ → Call → Bool
enters task r c = eqb c.operation ENTER && (eqb c.caller task && eqb c.a r)

abbrev pub exits : ℕ → ℕ → Call → Bool
exits task r c = eqb c.operation EXIT && (eqb c.caller task && eqb c.a r)

-- Each ENTER of the region by the task has its EXIT behind it, and each EXIT its ENTER before it: from this depth on, down to 0, and never
-- deeper than `most`. Any other calls, by anyone, stand among them.
abbrev pub balanced : ℕ → ℕ → ℕ → ℕ → List Call → Bool
balanced task r most depth [] = is_zero depth
balanced task r most depth (c ∷ cs) =
    cond (enters task r c) (ltb depth most && balanced task r most (suc depth) cs)
    (cond (exits task r c) (ltb 0 depth && balanced task r most (depth - 1) cs)
    (balanced task r most depth cs))

-- what is nested properly is balanced: nothing; one list behind another; one between an ENTER and an EXIT, where it is a level deeper
pub record Nested (task r most : ℕ) : Type 0 where
  pub empty : balanced task r most 0 [] ≡ true
  pub behind : (xs ys : List Call) → balanced task r most 0 xs ≡ true → balanced task r most 0 ys ≡ true → balanced task r most 0 (xs ++ ys) ≡ true
  pub around : (c d : Call) (xs : List Call) → enters task r c ≡ true → exits task r d ≡ true → balanced task r most 0 xs ≡ true
      → balanced task r (suc most) 0 (c ∷ (xs ++ (d ∷ []))) ≡ true

abbrev pub NestedBalanced : Type 0
NestedBalanced = (task r most : ℕ) → Nested task r most

-- the calls of a routine, as deep as 255 entries in all let it go
abbrev pub Routine : Table → ℕ → ℕ → List Call → Type 0
Routine t task r cs = balanced task r (most_entries - (region_of t r).entries) 0 cs ≡ true

-- after each of the calls the task holds the region
abbrev pub Held : ℕ → ℕ → Table → List Call → Type 0
Held task r t [] = Unit {0}
Held task r t (c ∷ cs) = (held_by task (region_of (step t c).table r) ≡ true) × Held task r (step t c).table cs

-- and runs
abbrev pub Protected : ℕ → ℕ → Table → List Call → Type 0
Protected task r t [] = Unit {0}
Protected task r t (c ∷ cs) =
    (held_by task (region_of (step t c).table r) ≡ true) × ((step t c).table.elected ≡ task) × Protected task r (step t c).table cs

-- the story of the record routine: in a closed region it goes on protected, and behind the helper its region is entered as often as before it
abbrev pub StillHeld : Type 0
StillHeld =
    (t : Table) (task r : ℕ) (cs : List Call) → valid t ≡ true → is_open (get_or t.opened r 0) ≡ false → held_by task (region_of t r) ≡ true
    → Routine t task r cs
    → Protected task r t cs × (region_of (after_all t cs) r ≡ region_of t r)

-- The holder of an open region may have to let others run, and what it calls then is refused with 12: its ENTERs and EXITs of the region come
-- when it is elected.
abbrev pub InItsTurn : ℕ → ℕ → Table → List Call → Type 0
InItsTurn task r t [] = Unit {0}
InItsTurn task r t (c ∷ cs) = ((enters task r c || exits task r c) ≡ true → t.elected ≡ task) × InItsTurn task r (step t c).table cs

-- then the same is so of every region, but that others may run in between
abbrev pub StillHeldInTurn : Type 0
StillHeldInTurn =
    (t : Table) (task r : ℕ) (cs : List Call) → valid t ≡ true → held_by task (region_of t r) ≡ true → Routine t task r cs → InItsTurn task r t cs
    → Held task r t cs × (region_of (after_all t cs) r ≡ region_of t r)

-- where the helper does nothing else, the whole table is the one before it
abbrev pub NothingLeft : Type 0
NothingLeft =
    (t : Table) (task r : ℕ) (cs : List Call) → valid t ≡ true → held_by task (region_of t r) ≡ true → Routine t task r cs
    → every (λ c. enters task r c || exits task r c) cs ≡ true
    → after_all t cs ≡ t

-- "free only at the matching EXIT": by the elected holder's EXIT of its only entry, and by no other call. Of a closed region the holder is elected.
abbrev pub FreedAtMatch : Type 0
FreedAtMatch =
    (t : Table) (task r : ℕ) (c : Call) → valid t ≡ true → held_by task (region_of t r) ≡ true
    → (held_by task (region_of (step t c).table r) ≡ false) ↔ ((exits task r c ≡ true) × ((region_of t r).entries ≡ 1) × (t.elected ≡ task))
