-- No EXIT without its ENTER, after any calls.
use Rattle.std.specs.Prelude.{ℕ, ◌+◌, ◌≡◌, Bool, true, cond, ◌&&◌, List, [], ◌∷◌, eqb}
use Rattle.rules.specs.declared.Table.{Table}
use Rattle.rules.specs.declared.Call.{Call}
use Rattle.rules.specs.Numbers.{ENTER, EXIT}
use Rattle.rules.specs.Words.{is_zero}
use Rattle.rules.specs.Regions.{held_by_other}
use Rattle.rules.specs.Tables.{region_of}
use Rattle.rules.specs.Validity.{valid}
use Rattle.rules.specs.Step.{step}
use Rattle.theorems.specs.Kept.{after_all}

-- a call of this operation that names region r and gets status 0: an ENTER that suspends its caller, with status 1, enters nothing yet
abbrev pub done_at : ℕ → ℕ → Table → Call → Bool
done_at operation r t c = eqb c.operation operation && (eqb c.a r && is_zero (step t c).answer.status)

-- an EXIT that hands region r on: behind it another task holds the region, with the entry that it waited for
abbrev pub hands_at : ℕ → Table → Call → Bool
hands_at r t c = done_at EXIT r t c && held_by_other c.caller (region_of (step t c).table r)

-- how many of some calls in turn are such
abbrev pub count_in : (Table → Call → Bool) → Table → List Call → ℕ
count_in counts t [] = 0
count_in counts t (c ∷ cs) = cond (counts t c) 1 0 + count_in counts (step t c).table cs

-- of each region: as often as it was entered, before these calls, by them, and by those to whom it was handed on, so often it was left or is
-- still to be left
abbrev pub ExitsEntered : Type 0
ExitsEntered =
    (t : Table) (cs : List Call) (r : ℕ) → valid t ≡ true
    → (region_of t r).entries + (count_in (done_at ENTER r) t cs + count_in (hands_at r) t cs)
    ≡ count_in (done_at EXIT r) t cs + (region_of (after_all t cs) r).entries
