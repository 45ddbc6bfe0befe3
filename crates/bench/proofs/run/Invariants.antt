-- Session and buffer stand as all that was read makes them.
use Rattle.std.proofs.Common.{◌≡◌, ◌-◌, length}
use Rattle.bench.specs.Rounds.{Reached, most_rounds}
use Rattle.bench.proofs.run.Given as goal

abbrev pub invariant-loop : goal.invariant-loop
invariant-loop l =
    record {
      room : length l.out ≡ length l.initial.out;
      reached : Reached l.s l.kept l.buffer (most_rounds - l.counter);
    }
