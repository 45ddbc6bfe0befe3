-- Every array is made of zeros.
use Rattle.std.proofs.Common.{refl}
use Rattle.rules.specs.Fresh.{zero_table}
use Rattle.tables.proofs.configuration.zero_table.Goals as goal

pub returns : goal.returns
unfolding zero_table
returns c = refl
