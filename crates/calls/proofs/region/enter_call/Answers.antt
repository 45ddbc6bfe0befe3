-- The region or the caller's entry of awaits is written, and the election is that of the table after it.
use Rattle.std.proofs.Common.{◌∙◌, sym, inl, inr}
use Rattle.tables.specs.Fronts.{whole}
use Rattle.calls.proofs.Done.{enter_front}
use Rattle.rules.specs.Commands.{its_call}
use Rattle.calls.proofs.region.enter_call.Goals as goal
use Rattle.calls.proofs.region.enter_call.Goals.{then-waits, else-waits}

pub returns : goal.returns
returns c =
    λ es cs z.
    sym c.elect_afresh-answer.ensures
    ∙ enter_front (whole c.args.t es cs) (its_call c.args.k) z c.requires c.if-waits.t c.held_by_other-waits.ensures c.entered-after.ensures
    (elim c.if-waits.branch [ then-waits w ↦ inl (w.if-waits.true, w.t-is) | else-waits w ↦ inr (w.if-waits.false, w.t-is) ])
    c.from.ensures
