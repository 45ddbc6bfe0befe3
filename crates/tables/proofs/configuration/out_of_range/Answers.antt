-- The table of zeros, 20, and 255 for the elected task.
use Rattle.std.proofs.Common.{refl}
use Rattle.tables.proofs.configuration.out_of_range.Goals as goal

pub returns : goal.returns
returns c = rw (c.zero_table.ensures, c.plain.ensures, c.number.ensures) refl
