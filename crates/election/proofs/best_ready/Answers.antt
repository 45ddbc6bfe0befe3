-- The lowest number of the smallest priority.
use Rattle.std.proofs.Common.{ap, ◌∙◌, ◌&&◌, eqb}
use Rattle.rules.specs.Numbers.{task_room}
use Rattle.rules.specs.Election.{lowest, ready_at, priority_at, is_best, best_ready}
use Rattle.election.proofs.Ranks.{smallest_within}
use Rattle.election.proofs.best_ready.Goals as goal

pub lowest_of-requires : goal.lowest_of-requires
lowest_of-requires c = smallest_within _ _ _ c.smallest_of-p.ensures

pub returns : goal.returns
unfolding best_ready is_best
returns c = let states = c.args.state.now in
    let priorities = c.args.priority.now in
    c.lowest_of.ensures ∙ ap (λ p. lowest task_room (λ i. ready_at states i && eqb (priority_at priorities i) p)) c.smallest_of-p.ensures
