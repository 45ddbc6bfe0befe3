-- Where nobody waits for a region the urgencies are the priorities, by the law; else what is carried.
use Rattle.std.proofs.Common.{sym, ◌∙◌, rules}
use Rattle.urgency.proofs.Carrying.{carried_is}
use Rattle.urgency.proofs.Quiet.{own_urgencies}
use Rattle.urgency.proofs.column.urgencies_of.Goals as goal

pub returns-then-nobody_awaits : goal.returns-then-nobody_awaits
returns-then-nobody_awaits c =
    own_urgencies _ _ _ _ (sym c.nobody_awaits.ensures ∙ c.if-nobody_awaits.true) (search rules) (λ i l. c.are_bytes.ensures i)

pub returns : goal.returns
returns c = c.carried_by_all.ensures ∙ carried_is _ _ _ _ (search rules) (search rules) (search rules) (λ i l. c.are_bytes.ensures i)
