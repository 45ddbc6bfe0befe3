-- Where nothing is refused, list and operator fit, so that the condition is the rules'.
use Rattle.std.proofs.Common.{◌≡◌, ◌∙◌, rules}
use Rattle.rules.specs.Queries.{one_if}
use Rattle.executive.proofs.Replies.{arrived_is}
use Rattle.executive.proofs.queries.arrived.Goals as goal

pub returns : goal.returns
returns c =
    let value : c.from.result ≡ one_if c.condition_met-met.result = search rules in
    c.arrived_reply.ensures ∙ arrived_is _ _ _ _ _ _ c.condition_met-met.ensures value
