-- What is listed and has arrived is taken away, which is never more than has arrived.
use Rattle.std.proofs.Common.{refl}
use lib.Bits.{and_le_l}
use Rattle.rules.specs.Events.{cleared}
use Rattle.tasks.proofs.effect.cleared_by.Goals as goal

pub overflow_sub-result : goal.overflow_sub-result
overflow_sub-result c = and_le_l _ _

pub returns : goal.returns
unfolding cleared
returns c = refl
