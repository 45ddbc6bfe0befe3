-- Where a task stands in the election: at its priority number if it is ready, else behind all that are.
use Rattle.std.specs.Prelude.{ℕ, ◌+◌, cond, eqb}
use Rattle.rules.specs.Tasks.{ready}

-- what is added for a task that is not ready
abbrev pub not_ready : ℕ
not_ready = 512

abbrev pub rank_of : ℕ → ℕ → ℕ
rank_of state priority = cond (eqb state ready) 0 not_ready + priority
