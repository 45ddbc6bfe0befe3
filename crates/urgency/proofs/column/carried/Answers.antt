-- What is left to carry from here is what was to be carried at the start.
use Rattle.std.proofs.Common.{◌≡◌, Some, rules, arith}
use Rattle.urgency.proofs.Carried.{carry_end, carry_stop, carry_past, carry_again}
use Rattle.urgency.proofs.column.carried.Goals as goal

pub returns-in_default : goal.returns-in_default
returns-in_default c = rw (← c.held_open-next.ensures) (carry_stop _ _ _ _ _ _ _ c.loop.invariant.same c.in_default.is)

pub returns-then-task-ge-TASKS : goal.returns-then-task-ge-TASKS
returns-then-task-ge-TASKS c =
    let some : c.loop.next ≡ Some c.from-task.result = cc in
    rw (← c.held_open-next.ensures) (carry_past _ _ _ _ _ _ _ c.loop.invariant.same some (search rules) c.loop.invariant.long c.if-task-ge-TASKS.true)

pub loop-preserved : goal.loop-preserved
loop-preserved c =
    let some : c.loop.next ≡ Some c.from-task.result = cc in record {
      long = search rules;
      same = carry_again _ _ _ _ _ _ _ c.loop.invariant.same some (omega arith) c.min.ensures c.held_open-next-in-loop.ensures;
    }

pub returns : goal.returns
returns c = rw (← c.held_open-next.ensures) (carry_end _ _ _ _ _ _ _ c.loop.invariant.same (omega arith))
