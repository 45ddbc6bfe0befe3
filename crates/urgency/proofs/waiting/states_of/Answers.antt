-- Each entry is the state of its task.
use Rattle.std.proofs.Common.{get_or, rules}
use Rattle.rules.specs.Numbers.{task_room}
use Rattle.rules.specs.Urgency.{states_with, state_with}
use Rattle.urgency.proofs.Arrays.{column_from}
use Rattle.urgency.proofs.waiting.states_of.Goals as goal

pub returns : goal.returns
unfolding states_with
returns c =
    let t = c.args.f.now in
    column_from _ (λ i. state_with (get_or t.awaits i 0) (get_or t.state i 0)) _ (λ i y q h. search rules) task_room _ c.from_fn.ensures.items
