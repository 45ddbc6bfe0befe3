-- The flag so far is the test of every task passed, from the count on; with a count past the room there is none.
use Rattle.std.proofs.Common.{rules, refl}
use Rattle.rules.specs.Numbers.{task_room}
use Rattle.tasks.proofs.Rows.{rest_start, rest_again, rest_end}
use Rattle.tasks.proofs.check.rest_zero.Goals as goal

pub loop-i-init : goal.loop-i-init
loop-i-init c = (search rules, search rules, rw c.from-i.ensures (rest_start _ _))

pub loop-i-preserved : goal.loop-i-preserved
loop-i-preserved c = (search rules, search rules, rest_again _ _ _ c.loop-i.invariant.0 c.loop-i.invariant.2 refl)

pub returns : goal.returns
returns c = rest_end _ _ _ task_room c.loop-i.invariant.0 c.loop-i.invariant.1 (search rules) c.loop-i.invariant.2
