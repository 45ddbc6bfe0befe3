-- The region is written, and its heir waits no more; the election is that of the table after it.
use Rattle.std.proofs.Common.{◌∙◌, sym, inl, inr}
use Rattle.tables.specs.Fronts.{whole}
use Rattle.calls.proofs.Done.{exit_front}
use Rattle.rules.specs.Commands.{its_call}
use Rattle.calls.proofs.region.exit_call.Goals as goal
use Rattle.calls.proofs.region.exit_call.Goals.{in-Some, in_default}

pub returns : goal.returns
returns c =
    λ es cs z.
    sym c.elect_afresh-answer.ensures
    ∙ exit_front (whole c.args.t es cs) (its_call c.args.k) z c.requires c.match-heir.t c.heir_at_exit-heir.ensures (rw c.unwrap_or.ensures at c.left_to-after.ensures)
    (elim c.match-heir.branch [ in-Some w ↦ inl (w.in-Some.task, (w.in-Some.is, w.t-is)) | in_default w ↦ inr (w.in_default.is, w.t-is) ])
