-- Where nobody waits both tests pass, by the laws.
use Rattle.std.proofs.Common.{sym, ◌∙◌}
use Rattle.urgency.proofs.Quiet.{no_circle_quiet}
use Rattle.urgency.proofs.Quiet.{awaits_quiet}
use Rattle.urgency.proofs.check.waiting_right.Goals as goal

pub returns-then-nobody_awaits : goal.returns-then-nobody_awaits
returns-then-nobody_awaits c =
    let nobody = sym c.nobody_awaits.ensures ∙ c.if-nobody_awaits.true in
    rw (awaits_quiet _ _ _ _ _ nobody, no_circle_quiet _ _ nobody) c.if-nobody_awaits.true
