-- The table is that of zeros.
use Rattle.bench_lines.specs.Start.{first_refused}
use Rattle.bench_lines.proofs.start.first_refused.Goals as goal

pub returns : goal.returns
unfolding first_refused
returns c = rw (c.zeros.ensures, c.plain.ensures, c.number.ensures)
