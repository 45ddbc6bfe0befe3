-- Where nobody awaits anything there is none, by the law.
use Rattle.std.proofs.Common.{sym, ◌∙◌}
use Rattle.urgency.proofs.Quiet.{no_circle_quiet}
use Rattle.urgency.proofs.circles.no_circle.Goals as goal

pub returns-then-nobody_awaits : goal.returns-then-nobody_awaits
returns-then-nobody_awaits c = let yes = c.if-nobody_awaits.true in yes ∙ sym (no_circle_quiet _ _ (sym c.nobody_awaits.ensures ∙ yes))
