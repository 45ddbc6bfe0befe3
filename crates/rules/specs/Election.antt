-- Election: "the holder if any region is occupied; else the ready task of smallest priority number, and of equals the lowest task number; else 255".
-- Since T-09 a table's election hands over its urgencies for priorities, and the holders of its closed regions (`Tables` `election_of`).
use Rattle.std.specs.Prelude.{ℕ, zero, suc, ◌-◌, ◌<◌, ◌≤◌, min, ◌≡◌, ◌⊎◌, Bool, true, cond, not, ◌&&◌, List, eqb, get_or}
use Rattle.rules.specs.declared.Elected.{Elected}
use Rattle.rules.specs.Numbers.{task_room, priority_end, nobody}
use Rattle.rules.specs.Words.{is_zero}
use Rattle.rules.specs.Tasks.{ready}
use Rattle.rules.specs.Regions.{occupied, holder_of}

-- of the numbers below n that pass: the smallest priority; 256 where none passes
unfoldable pub smallest : ℕ → (ℕ → Bool) → (ℕ → ℕ) → ℕ
smallest zero passes priority = priority_end
smallest (suc n) passes priority =
    cond (passes n) (min (priority n) (smallest n passes priority)) (smallest n passes priority)

-- the lowest number below n that passes; 255 where none does
unfoldable pub lowest : ℕ → (ℕ → Bool) → ℕ
lowest zero passes = nobody
lowest (suc n) passes = cond (eqb (lowest n passes) nobody && passes n) n (lowest n passes)

abbrev pub ready_at : List ℕ → ℕ → Bool
ready_at states i = eqb (get_or states i 0) ready

abbrev pub priority_at : List ℕ → ℕ → ℕ
priority_at priorities i = get_or priorities i 0

-- a ready task "of smallest priority number"
unfoldable pub is_best : List ℕ → List ℕ → ℕ → Bool
is_best states priorities i =
    ready_at states i && eqb (priority_at priorities i) (smallest task_room (ready_at states) (priority_at priorities))

-- "of equals the lowest task number; else 255"
unfoldable pub best_ready : List ℕ → List ℕ → ℕ
best_ready states priorities = lowest task_room (is_best states priorities)

-- "the holder if any region is occupied; else .."
unfoldable pub election : List ℕ → List ℕ → List ℕ → ℕ
election states priorities holders = cond (occupied holders) (holder_of holders) (best_ready states priorities)

-- ---- "Election must also answer the one displaced"

-- "the former elected task if it is still ready and no longer elected, else 255"
unfoldable pub displaced_by : ℕ → List ℕ → ℕ → ℕ
displaced_by former states elected = cond (ready_at states former && not (eqb former elected)) former nobody

-- both answers of an election, where `former` was elected before it
abbrev pub elect : ℕ → List ℕ → List ℕ → List ℕ → Elected
elect former states priorities holders =
    record {
      task = election states priorities holders;
      displaced = displaced_by former states (election states priorities holders);
    }

-- ---- the same in words of every ready task, and by the first occupied region's entry

abbrev pub Ready : List ℕ → ℕ → Type 0
Ready states i = (i < task_room) × (ready_at states i ≡ true)

-- "the ready task of smallest priority number, and of equals the lowest task number"
pub record Wins (states priorities : List ℕ) (w : ℕ) : Type 0 where
  pub ready : Ready states w
  pub first : (i : ℕ) → Ready states i
      → (priority_at priorities w < priority_at priorities i) ⊎ ((priority_at priorities w ≡ priority_at priorities i) × (w ≤ i))

-- by the entry of the first occupied region, as the code has it
unfoldable pub elected_by : ℕ → List ℕ → List ℕ → ℕ
elected_by v states priorities = cond (is_zero v) (best_ready states priorities) (v - 1)

abbrev pub elect_by : ℕ → ℕ → List ℕ → List ℕ → Elected
elect_by former v states priorities =
    record { task = elected_by v states priorities; displaced = displaced_by former states (elected_by v states priorities) }
