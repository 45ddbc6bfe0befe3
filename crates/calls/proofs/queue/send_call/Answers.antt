-- A length is below 256, so that the sum fits; what is written is the step's.
use Rattle.std.proofs.Common.{refl}
use Rattle.tables.specs.Fronts.{whole}
use Rattle.calls.proofs.Together.{in_parts}
use Rattle.calls.proofs.Done.{send_step}
use Rattle.rules.specs.Commands.{its_call}
use Rattle.calls.proofs.queue.send_call.Goals as goal

pub returns : goal.returns
returns c =
    λ z.
    rw c.plain.ensures
    (in_parts
    (send_step (whole c.args.t c.args.store.now.element c.args.store.now.criterion) (its_call c.args.k) z c.requires refl))
