-- The urgencies of those that wait for a region, as the choice of its heir reads them.
use Rattle.std.specs.Prelude.{ℕ, cond, List}
use Rattle.rules.specs.Numbers.{task_room}
use Rattle.rules.specs.Words.{column}
use Rattle.rules.specs.Urgency.{awaiting, task_urgency}

-- 0 for the others: the choice doesn't read theirs
unfoldable pub line_urgencies : List ℕ → List ℕ → List ℕ → List ℕ → ℕ → List ℕ
line_urgencies priority awaits opened holder r =
    column task_room (λ i. cond (awaiting awaits r i) (task_urgency priority awaits opened holder task_room i) 0)
