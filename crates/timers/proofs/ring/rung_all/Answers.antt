-- The timers passed have rung, and at the end of the room that is all of them.
use Rattle.std.proofs.Common.{rules}
use Rattle.timers.proofs.Mapped.{mapped_start, mapped_again, mapped_end}
use Rattle.timers.proofs.ring.rung_all.Goals as goal

pub loop-r-init : goal.loop-r-init
loop-r-init c = (search rules, mapped_start _ _)

pub loop-r-preserved : goal.loop-r-preserved
loop-r-preserved c = (search rules, mapped_again _ _ _ _ _ _ c.loop-r.invariant.1 c.rung_timer.ensures (search rules))

pub returns : goal.returns
returns c = mapped_end _ _ _ _ c.loop-r.invariant.1 (search rules)
