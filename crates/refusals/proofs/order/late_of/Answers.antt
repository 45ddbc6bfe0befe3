-- By the kind of the command: what the other kinds could meet does not apply, so the first that applies is the list's.
use Rattle.std.proofs.Common.{arith}
use Rattle.refusals.proofs.Refused.{refused_missing, refused_timer, refused_queue, refused_task}
use Rattle.refusals.proofs.order.late_of.Goals as goal

pub returns-in_err-refuse : goal.returns-in_err-refuse
returns-in_err-refuse c = grind (arith, refused_missing)

pub returns-in-Start : goal.returns-in-Start
returns-in-Start c = grind (arith, refused_task)

pub returns-in-Send : goal.returns-in-Send
returns-in-Send c = grind (arith, refused_queue)

pub returns-in-Arm : goal.returns-in-Arm
returns-in-Arm c = grind (arith, refused_timer)
