-- What is left to carry from here is what was to be carried at the start.
use Rattle.std.proofs.Common.{◌≡◌, ◌-◌, length}
use Rattle.rules.specs.Numbers.{task_room}
use Rattle.urgency.specs.Carrying.{carry}
use Rattle.urgency.specs.Named.{stored}
use Rattle.urgency.proofs.column.carried.Given as goal

abbrev pub invariant-loop : goal.invariant-loop
invariant-loop l = record {
  long : length l.out ≡ task_room;
  same : carry l.f.awaits l.f.opened l.f.holder (task_room - l.counter) (stored l.next) l.p l.out ≡ carry l.f.awaits l.f.opened l.f.holder task_room (stored l.initial.next) l.p l.initial.out;
}
