-- Where nobody waits for a region by what is stored, by the law; else by the states and urgencies.
use Rattle.std.proofs.Common.{sym, ◌∙◌, rules}
use Rattle.urgency.proofs.Quiet.{elect_quiet}
use Rattle.urgency.proofs.elected.elect_now.Goals as goal

pub returns-then-nobody_awaits : goal.returns-then-nobody_awaits
returns-then-nobody_awaits c =
    c.elect.ensures
    ∙ elect_quiet _ _ _ _ (sym c.nobody_awaits.ensures ∙ c.if-nobody_awaits.true) (search rules) (λ i l. c.are_bytes.ensures i) _ (search rules) _ _

pub returns : goal.returns
returns c = c.elect-2.ensures ∙ rw (c.states_of-states.ensures, c.urgencies_of-urgency.ensures)
