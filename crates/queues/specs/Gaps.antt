-- The gap that RETRIEVE leaves in a part of the flat store, closed, for any two ends: a part that is not there stays as it is.
use Rattle.std.specs.Prelude.{ℕ, cond, ◌&&◌, List, leb, ltb}
use Rattle.rules.specs.Numbers.{store_size}
use Rattle.rules.specs.Queues.{closed}

-- the gap at `at` closed, with 0 in the last place, `end - 1`
unfoldable pub closed_in : ℕ → ℕ → List ℕ → List ℕ
closed_in at end store = cond (ltb at end && leb end store_size) (closed at end store) store
