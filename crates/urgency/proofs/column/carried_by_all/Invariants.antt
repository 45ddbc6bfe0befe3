-- The ways of the tasks passed are carried.
use Rattle.std.proofs.Common.{◌≡◌, length}
use Rattle.urgency.specs.Carrying.{carried_by}
use Rattle.urgency.proofs.column.carried_by_all.Given as goal

abbrev pub invariant-loop-p : goal.invariant-loop-p
invariant-loop-p l = l.out ≡ carried_by l.f.priority l.f.awaits l.f.opened l.f.holder (length l.yielded)
