-- The four tests of the definition, joined.
use mathlib.Core.Bool.{and-true}
use Rattle.rules.specs.Words.{all}
use Rattle.rules.specs.Validity.{counts_in_range}
use Rattle.tables.proofs.counts.counts_right.Goals as goal

pub returns : goal.returns
unfolding counts_in_range all
returns c = simp and-true
