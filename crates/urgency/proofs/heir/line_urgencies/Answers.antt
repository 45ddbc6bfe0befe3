-- Each entry is the urgency of its task, where that waits for the region.
use Rattle.std.proofs.Common.{cond, rules}
use Rattle.rules.specs.Numbers.{task_room}
use Rattle.rules.specs.Urgency.{awaiting, task_urgency}
use Rattle.urgency.specs.Lines.{line_urgencies}
use Rattle.urgency.proofs.Arrays.{column_from}
use Rattle.urgency.proofs.heir.line_urgencies.Goals as goal

pub returns : goal.returns
unfolding line_urgencies
returns c =
    let t = c.args.f.now in
    column_from _ (λ i. cond (awaiting t.awaits c.args.r i) (task_urgency t.priority t.awaits t.opened t.holder task_room i) 0) _
    (λ i y q h. search rules) task_room _ c.from_fn.ensures.items
