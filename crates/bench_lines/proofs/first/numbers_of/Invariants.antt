-- The array so far holds the numbers passed and zeros.
use Rattle.std.proofs.Common.{◌≡◌}
use Rattle.tables.proofs.Fills.{filled}
use Rattle.bench_lines.specs.First.{number_room, numbers}
use Rattle.bench_lines.proofs.first.numbers_of.Given as goal

abbrev pub invariant-loop-i : goal.invariant-loop-i
invariant-loop-i l = l.out ≡ filled number_room l.i (numbers l.line)
