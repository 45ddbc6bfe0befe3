-- The rules of validity gathered by what they speak of, tasks, regions, queues, as a check goes through them. Nothing is added to the list of
-- `Validity`: the law `valid_is` says that a table of the right shape passes these exactly if it is valid.
use Rattle.std.specs.Prelude.{ℕ, ◌-◌, Bool, cond, not, ◌&&◌, ◌||◌, List, [], ◌∷◌, ltb, eqb, leb, get_or}
use Rattle.rules.specs.Numbers.{task_room, priority_end, list_end, region_room, queue_room}
use Rattle.rules.specs.Words.{is_zero, all, every, below}
use Rattle.rules.specs.Tasks.{waiting}
use Rattle.rules.specs.Queues.{behind}
use Rattle.rules.specs.Election.{ready_at}
use Rattle.rules.specs.Urgency.{is_open}
use Rattle.rules.specs.Validity.{bound_in_range, state_right, entries_fit, await_fits}

-- a task below the count: its priority and what the columns say of it
unfoldable pub row_right : ℕ → ℕ → ℕ → ℕ → ℕ → Bool
row_right priority state arrived list operator =
    all (ltb priority priority_end
    ∷ ltb arrived list_end
    ∷ ltb list list_end
    ∷ leb operator 1
    ∷ (eqb state waiting || (is_zero list && is_zero operator))
    ∷ state_right state arrived list operator
    ∷ [])

-- one past it
unfoldable pub row_zero : ℕ → ℕ → ℕ → ℕ → ℕ → Bool
row_zero priority state arrived list operator =
    all (is_zero priority ∷ is_zero state ∷ is_zero arrived ∷ is_zero list ∷ is_zero operator ∷ [])

-- task i of a table with so many
unfoldable pub row_fits : ℕ → ℕ → ℕ → ℕ → ℕ → ℕ → ℕ → Bool
row_fits tasks i priority state arrived list operator =
    cond (ltb i tasks) (row_right priority state arrived list operator) (row_zero priority state arrived list operator)

unfoldable pub tasks_right : ℕ → List ℕ → List ℕ → List ℕ → List ℕ → List ℕ → Bool
tasks_right tasks priorities states arrived lists operators =
    below task_room
    (λ i. row_fits tasks i (get_or priorities i 0) (get_or states i 0) (get_or arrived i 0) (get_or lists i 0) (get_or operators i 0))

-- region i of a table with so many, where `mark` and h are its mark and its entry, and v is the occupied closed ones' entry
unfoldable pub region_fits : ℕ → ℕ → ℕ → ℕ → ℕ → Bool
region_fits regions v i mark h =
    (is_zero mark || (ltb i regions && is_open mark)) && (is_zero h || (ltb i regions && (is_open mark || eqb h v)))

unfoldable pub regions_right : ℕ → ℕ → List ℕ → List ℕ → Bool
regions_right regions v opened holders = below region_room (λ i. region_fits regions v i (get_or opened i 0) (get_or holders i 0))

-- the holder of an open region, if there is one, is a task that is stored as ready
unfoldable pub open_holder_fits : ℕ → List ℕ → ℕ → ℕ → Bool
open_holder_fits tasks states mark h = not (is_open mark) || (is_zero h || (leb h tasks && ready_at states (h - 1)))

unfoldable pub open_holders_fit : ℕ → List ℕ → List ℕ → List ℕ → Bool
open_holders_fit tasks states opened holders = below region_room (λ i. open_holder_fits tasks states (get_or opened i 0) (get_or holders i 0))

-- task i of a table with so many waits for nothing, or for what it may wait for
unfoldable pub await_right : ℕ → ℕ → ℕ → ℕ → ℕ → ℕ → Bool
await_right tasks i state entry mark h = is_zero entry || (ltb i tasks && await_fits i state mark h)

unfoldable pub awaits_fit : ℕ → List ℕ → List ℕ → List ℕ → List ℕ → Bool
awaits_fit tasks states awaits opened holders =
    below task_room
    (λ i. await_right tasks i (get_or states i 0) (get_or awaits i 0) (get_or opened (get_or awaits i 0 - 1) 0) (get_or holders (get_or awaits i 0 - 1) 0))

-- each region's count fits its holder, also past the count of regions, where both are 0
unfoldable pub entries_everywhere : List ℕ → List ℕ → Bool
entries_everywhere holders entries = below region_room (λ i. entries_fit (get_or holders i 0) (get_or entries i 0))

-- the closed regions' holder, if there is one, is a task that is ready
unfoldable pub holder_right : ℕ → List ℕ → ℕ → Bool
holder_right tasks states v = is_zero v || (leb v tasks && ready_at states (v - 1))

-- bound and length of queue q of a table with so many queues
unfoldable pub bound_fits : ℕ → ℕ → ℕ → ℕ → Bool
bound_fits queues q bound n = cond (ltb q queues) (bound_in_range bound && leb n bound) (is_zero bound && is_zero n)

unfoldable pub queue_right : ℕ → ℕ → ℕ → ℕ → List ℕ → List ℕ → Bool
queue_right queues q bound n es cs = bound_fits queues q bound n && (every is_zero (behind q n es) && every is_zero (behind q n cs))

unfoldable pub queues_right : ℕ → List ℕ → List ℕ → List ℕ → List ℕ → Bool
queues_right queues bounds lengths es cs = below queue_room (λ q. queue_right queues q (get_or bounds q 0) (get_or lengths q 0) es cs)
