-- The front after a tick is that of the step, and so is who is elected.
use Rattle.std.proofs.Common.{sym, ◌∙◌}
use Rattle.calls.proofs.Done.{tick_front}
use Rattle.calls.proofs.timer.tick_call.Goals as goal

pub returns : goal.returns
returns c = λ k e es cs z. sym c.elect_afresh-answer.ensures ∙ (rw c.tick.ensures (tick_front c.args.t es cs k z e))
