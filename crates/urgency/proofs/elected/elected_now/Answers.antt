-- Where nobody waits for a region by what is stored, by the law; else by the states and urgencies.
use Rattle.std.proofs.Common.{rules, sym, ◌∙◌}
use Rattle.urgency.proofs.Quiet.{elected_quiet}
use Rattle.urgency.proofs.elected.elected_now.Goals as goal

pub returns-then-nobody_awaits : goal.returns-then-nobody_awaits
returns-then-nobody_awaits c =
    c.elected_by.ensures
    ∙ elected_quiet _ _ _ _ (sym c.nobody_awaits.ensures ∙ c.if-nobody_awaits.true) (search rules) (λ i l. c.are_bytes.ensures i) _ (search rules) _

pub returns : goal.returns
returns c = c.elected_by-2.ensures ∙ rw (c.states_of-states.ensures, c.urgencies_of-urgency.ensures)
