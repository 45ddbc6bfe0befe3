-- What a configuration does not set is as in the table of zeros, but for task 0, which is ready.
use Rattle.std.proofs.Common.{refl}
use Rattle.rules.specs.Words.{padded}
use Rattle.rules.specs.Fresh.{zero_table}
use Rattle.tables.proofs.configuration.fresh_table.Goals as goal

pub returns : goal.returns
unfolding padded zero_table
returns c = rw c.zero_table-t.ensures refl
