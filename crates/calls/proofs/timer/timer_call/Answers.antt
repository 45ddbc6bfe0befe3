-- One entry of the timers is written; the rest is as it came in.
use Rattle.std.proofs.Common.{ap}
use Rattle.tables.specs.Fronts.{whole, front_done}
use Rattle.calls.proofs.Done.{timer_step}
use Rattle.rules.specs.Commands.{its_call}
use Rattle.calls.proofs.timer.timer_call.Goals as goal

pub returns : goal.returns
returns c =
    λ es cs z.
    rw c.plain.ensures
    (ap front_done
    (timer_step (whole c.args.t es cs) (its_call c.args.k) z c.requires.from_arm c.requires.before_tick (rw c.from.ensures at c.timer_after.ensures)))
