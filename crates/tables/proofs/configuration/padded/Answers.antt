-- The bytes, and what is left of the zeros.
use Rattle.rules.specs.Words.{padded}
use Rattle.std.proofs.lemmas.List.{drop-replicate}
use Rattle.tables.proofs.configuration.padded.Goals as goal

pub returns : goal.returns
unfolding padded
returns g c = rw (c.copy_from_slice.ensures.after, drop-replicate)
