-- The test is the definition's own.
use Rattle.std.proofs.Common.{add-one}
use mathlib.Core.Bool.{and-true}
use Rattle.rules.specs.Words.{all}
use Rattle.rules.specs.Checks.{await_right}
use Rattle.urgency.proofs.check.await_fits.Goals as goal

pub returns : goal.returns
unfolding await_right all
returns c = rw (c.from.ensures, c.from-2.ensures, add-one, and-true)
