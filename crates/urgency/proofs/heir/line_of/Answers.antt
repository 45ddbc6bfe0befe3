-- Each entry says whether its task waits for the region.
use Rattle.std.proofs.Common.{cond, get_or, rules}
use Rattle.rules.specs.Numbers.{task_room}
use Rattle.rules.specs.Tasks.{ready, stopped}
use Rattle.rules.specs.Words.{names}
use Rattle.rules.specs.Urgency.{line}
use Rattle.urgency.proofs.Arrays.{column_from}
use Rattle.urgency.proofs.heir.line_of.Goals as goal

pub returns : goal.returns
unfolding line
returns c =
    let t = c.args.f.now in
    column_from _ (λ i. cond (names (get_or t.awaits i 0) c.args.r) ready stopped) _ (λ i y q h. search rules) task_room _ c.from_fn.ensures.items
