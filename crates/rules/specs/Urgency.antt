-- Urgency: "a task's urgency asks its regions, and a region's asks its waiting tasks", through any chain; who waits for a region, and who gets it.
-- `awaits` has for each task 0, or the number plus 1 of the region that it waits for; `opened` has 1 for each region that is open.
use Rattle.std.specs.Prelude.{ℕ, zero, suc, min, Bool, cond, not, ◌&&◌, List, eqb, get_or}
use Rattle.rules.specs.Numbers.{task_room, region_room, priority_end}
use Rattle.rules.specs.Words.{is_zero, below, column, names}
use Rattle.rules.specs.Tasks.{stopped, ready, suspended}
use Rattle.rules.specs.Election.{smallest, best_ready}

-- "mark regions as open", with 1; "others stay closed", with 0
abbrev pub is_open : ℕ → Bool
is_open mark = eqb mark 1

-- the holders of the closed regions: an open one counts as free
unfoldable pub closed_holders : List ℕ → List ℕ → List ℕ
closed_holders opened holder = column region_room (λ r. cond (is_open (get_or opened r 0)) 0 (get_or holder r 0))

-- task i waits for region r
abbrev pub awaiting : List ℕ → ℕ → ℕ → Bool
awaiting awaits r i = names (get_or awaits i 0) r

-- region r is open, and task i holds it
abbrev pub holding : List ℕ → List ℕ → ℕ → ℕ → Bool
holding opened holder i r = is_open (get_or opened r 0) && names (get_or holder r 0) i

-- task i holds an open region
unfoldable pub holds_open : List ℕ → List ℕ → ℕ → Bool
holds_open opened holder i = not (below region_room (λ r. not (holding opened holder i r)))

-- no task waits for a region
unfoldable pub nobody_awaits : List ℕ → Bool
nobody_awaits awaits = below task_room (λ i. is_zero (get_or awaits i 0))

-- "STATE 3 means waiting for a region": stored are the state of a ready task, and beside it the region that it waits for
abbrev pub state_with : ℕ → ℕ → ℕ
state_with awaited state = cond (is_zero awaited) state suspended

-- the states of all tasks
unfoldable pub states_with : List ℕ → List ℕ → List ℕ
states_with awaits states = column task_room (λ i. state_with (get_or awaits i 0) (get_or states i 0))

-- ---- "a holder takes the smallest priority number of its own and those waiting on it, through any chain"

module _ (priority awaits opened holder : List ℕ) where
  -- a task's urgency, where its regions' are known: the smaller of its own priority number and the urgencies of the open regions that it holds
  unfoldable pub urgency_by : (ℕ → ℕ) → ℕ → ℕ
  urgency_by region i = min (get_or priority i 0) (smallest region_room (holding opened holder i) region)

  -- a region's: the smallest of the tasks that wait for it, with one task less left on the way; 256 where nobody waits or no task is left
  unfoldable pub region_urgency : ℕ → ℕ → ℕ
  region_urgency zero r = priority_end
  region_urgency (suc left) r = smallest task_room (awaiting awaits r) (urgency_by (region_urgency left))

  unfoldable pub task_urgency : ℕ → ℕ → ℕ
  task_urgency left = urgency_by (region_urgency left)

  -- of every task: a way along the chain of holders passes each task once at most, so that as many as there is room for are enough
  unfoldable pub urgencies : List ℕ
  urgencies = column task_room (task_urgency task_room)

-- ---- "EXIT at count 0 gives it to its most urgent waiting task .., lowest number of equals"

-- who waits for region r, as the election sees who is ready
unfoldable pub line : List ℕ → ℕ → List ℕ
line awaits r = column task_room (λ i. cond (awaiting awaits r i) ready stopped)

-- chosen as the election chooses; 255 where nobody waits
unfoldable pub heir : List ℕ → List ℕ → List ℕ → List ℕ → ℕ → ℕ
heir priority awaits opened holder r = best_ready (line awaits r) (urgencies priority awaits opened holder)
