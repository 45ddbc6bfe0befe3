-- What `fresh` ensures, of the three parts of the numbers.
use Rattle.bench_lines.proofs.first.fresh_from.Goals as goal

pub returns : goal.returns
returns c = c.fresh.ensures
