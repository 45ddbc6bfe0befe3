-- Not the matching EXIT, or nobody waits at all.
use Rattle.std.proofs.Common.{sym, ◌∙◌, eq-eqb, ne_eqb}
use Rattle.urgency.proofs.Quiet.{heir_quiet}
use Rattle.urgency.proofs.heir.heir_at_exit.Goals as goal
use Rattle.urgency.proofs.heir.heir_at_exit.Goals.{then-goes_on-via-then-goes_on, then-goes_on-via-else-goes_on+then-nobody_awaits}

pub returns-then-goes_on : goal.returns-then-goes_on
returns-then-goes_on c = elim c.then-goes_on.branch [
  | then-goes_on-via-then-goes_on w ↦ rw (ne_eqb _ 1 w.if-goes_on.true)
  | then-goes_on-via-else-goes_on+then-nobody_awaits w ↦
      rw (eq-eqb _ 1 w.if-goes_on.false, heir_quiet _ _ _ _ _ (sym w.nobody_awaits.ensures ∙ w.if-nobody_awaits.true))
]
