-- The flag so far is the test of every task passed; with what is 0 past the count it is the whole test.
use Rattle.std.proofs.Common.{rules}
use Rattle.rules.specs.Numbers.{task_room}
use Rattle.rules.specs.Words.{below}
use Rattle.rules.proofs.Counts.{below_again, below_end}
use Rattle.tasks.proofs.Rows.{tasks_is}
use Rattle.tasks.proofs.check.tasks_right.Goals as goal

pub loop-i-init : goal.loop-i-init
unfolding below
loop-i-init c = search rules

pub loop-i-preserved : goal.loop-i-preserved
loop-i-preserved c = (search rules, below_again _ _ _ _ c.loop-i.invariant.1 (c.row_fits-ok.ensures _ (search rules)))

pub returns : goal.returns
returns c = tasks_is _ _ _ _ _ _ (below_end _ task_room _ _ c.loop-i.invariant.1 (search rules) (search rules)) c.rest_zero-rest.ensures
