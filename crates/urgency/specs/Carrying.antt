-- Carrying: what a task's priority number does on its way, step by step as the code goes. That the outcome is each task's urgency is a law.
use Rattle.std.specs.Prelude.{ℕ, zero, suc, min, cond, List, get_or, set}
use Rattle.rules.specs.Numbers.{task_room}
use Rattle.rules.specs.Urgency.{is_open}

-- who holds the open region that this entry names, as stored; 0 where it names none
unfoldable pub held_open : List ℕ → List ℕ → ℕ → ℕ
held_open opened holder zero = 0
held_open opened holder (suc r) = cond (is_open (get_or opened r 0)) (get_or holder r 0) 0

-- task i is at least as urgent as p
abbrev pub lowered : ℕ → ℕ → List ℕ → List ℕ
lowered i p out = set out i (min (get_or out i 0) p)

module _ (awaits opened holder : List ℕ) where
  -- p goes on from whom the entry names, over so many tasks
  unfoldable pub carry : ℕ → ℕ → ℕ → List ℕ → List ℕ
  carry zero entry p out = out
  carry (suc left) zero p out = out
  carry (suc left) (suc i) p out = carry left (held_open opened holder (get_or awaits i 0)) p (lowered i p out)

-- from the priorities, after the ways of the first n tasks
unfoldable pub carried_by : List ℕ → List ℕ → List ℕ → List ℕ → ℕ → List ℕ
carried_by priority awaits opened holder zero = priority
carried_by priority awaits opened holder (suc n) =
    carry awaits opened holder task_room (held_open opened holder (get_or awaits n 0)) (get_or priority n 0) (carried_by priority awaits opened holder n)
