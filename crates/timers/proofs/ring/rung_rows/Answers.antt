-- What the columns are now and what is still to be rung make the whole, and at the end of the room that is all of them.
use Rattle.std.proofs.Common.{◌∙◌, rules}
use Rattle.timers.proofs.Signals.{row_signalled, row_left, rows_again, rows_end}
use Rattle.timers.proofs.ring.rung_rows.Goals as goal
use Rattle.timers.proofs.ring.rung_rows.Goals.{then-is_due-owner, else-is_due-owner}

pub loop-r-preserved : goal.loop-r-preserved
loop-r-preserved c =
    let due = c.is_due.ensures in
    elim c.if-is_due-owner.branch [
      | then-is_due-owner w ↦
          let here = row_signalled _ _ _ due w.if-is_due-owner.true (w.f-is ∙ w.signal_at.ensures) in
          (search rules, rows_again _ _ c.args.timers _ _ c.loop-r.invariant.1 here (search rules))
      | else-is_due-owner w ↦
          let here = row_left _ _ _ due w.if-is_due-owner.false w.f-is in
          (search rules, rows_again _ _ c.args.timers _ _ c.loop-r.invariant.1 here (search rules))
    ]

pub returns : goal.returns
returns c = rows_end _ c.loop-r.r-index c.args.timers _ c.loop-r.invariant.1 (search rules)
