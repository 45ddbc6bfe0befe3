-- Who runs: the elected task after every call, and what nobody else can do while a closed region is held.
use Rattle.std.specs.Prelude.{ℕ, ◌<◌, ◌≡◌, ◌≢◌, ◌↔◌, ◌⊎◌, true, false, List, [], ◌∷◌}
use Rattle.rules.specs.declared.Table.{Table}
use Rattle.rules.specs.declared.Call.{Call}
use Rattle.rules.specs.Numbers.{task_room, nobody, outside, SIGNAL, EXIT, TICK}
use Rattle.rules.specs.Regions.{occupied, holder_of}
use Rattle.rules.specs.Election.{ready_at, Wins}
use Rattle.rules.specs.Tables.{states_of, urgencies_of, closed_of}
use Rattle.rules.specs.Validity.{valid}
use Rattle.rules.specs.Refusals.{refusal}
use Rattle.rules.specs.Step.{step}
use Rattle.theorems.specs.Kept.{after_all}

-- "the holder if any region is occupied; else the ready task of smallest priority number, and of equals the lowest task number;
-- else 255, exactly if no task is ready"; since T-09 of closed regions, and by urgency in the place of priority
pub record Runs (t : Table) : Type 0 where
  pub holder : occupied (closed_of t) ≡ true → t.elected ≡ holder_of (closed_of t)
  pub best : occupied (closed_of t) ≡ false → t.elected ≢ nobody → Wins (states_of t) (urgencies_of t) t.elected
  pub none : (t.elected ≡ nobody) ↔ ((i : ℕ) → i < task_room → ready_at (states_of t) i ≡ false)

-- after every accepted call
abbrev pub RightOneRuns : Type 0
RightOneRuns = (t : Table) (c : Call) → refusal t c ≡ 0 → Runs (step t c).table

-- while a closed region is held, only its holder's calls are accepted, and signals and ticks from outside
abbrev pub OnlyHolder : Type 0
OnlyHolder =
    (t : Table) (c : Call) → occupied (closed_of t) ≡ true → refusal t c ≡ 0
    → (c.caller ≡ holder_of (closed_of t)) ⊎ ((c.caller ≡ outside) × ((c.operation ≡ SIGNAL) ⊎ (c.operation ≡ TICK)))

-- it ends by the holder's EXIT, and by nothing else
abbrev pub FreedByExit : Type 0
FreedByExit =
    (t : Table) (c : Call) → valid t ≡ true → occupied (closed_of t) ≡ true → occupied (closed_of (step t c).table) ≡ false
    → (c.operation ≡ EXIT) × (c.caller ≡ holder_of (closed_of t))

-- until then, after each of these calls, a closed region is occupied
abbrev pub Inside : Table → List Call → Type 0
Inside t [] = Unit {0}
Inside t (c ∷ cs) = (occupied (closed_of (step t c).table) ≡ true) × Inside (step t c).table cs

-- and the elected task stays, whatever is started or signalled, by whatever timer
abbrev pub HolderStays : Type 0
HolderStays =
    (t : Table) (cs : List Call) → valid t ≡ true → occupied (closed_of t) ≡ true → Inside t cs → (after_all t cs).elected ≡ t.elected
