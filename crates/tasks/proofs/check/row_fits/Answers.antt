-- By the state: each state's flag is the test of that state, and the types give the widths.
use Rattle.std.proofs.Common.{rules}
use Rattle.tasks.proofs.States.{right_is}
use Rattle.tasks.proofs.check.row_fits.Goals as goal

pub returns : goal.returns
returns c = λ priority p. right_is priority _ _ _ p (search rules) (search rules) _ _ c.met_by-met.ensures
