-- The invariant of the walk over the lines: the reader is one of the log, and what stands behind the lines that are still to be walked over,
-- of what the reader has ahead, is what stands behind n lines of the log.
use Rattle.std.proofs.Common.{◌≡◌, ◌-◌, drop}
use Rattle.lines.specs.Reading.{behind_lines}
use Rattle.lines.proofs.reader.walked_over.Given as goal

abbrev pub invariant-loop : goal.invariant-loop
invariant-loop l = (l.reader.log.now ≡ l.log) × (behind_lines (l.n - l.counter) (drop l.reader.at l.log) ≡ behind_lines l.n l.log)
