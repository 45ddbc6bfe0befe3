-- A configuration without a task is out of range, and its table is that of zeros.
use Rattle.std.proofs.Common.{ap}
use Rattle.rules.specs.Words.{all}
use Rattle.rules.specs.Validity.{counts_in_range}
use Rattle.rules.specs.Fresh.{configuration_in_range, fresh}
use Rattle.bench_lines.proofs.start.zeros.Goals as goal

pub returns : goal.returns
unfolding fresh configuration_in_range all counts_in_range
returns c = ap (λ d. d.table) c.fresh.ensures
