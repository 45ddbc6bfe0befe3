-- Not open or free, an entry past the count, or a task's, which is ready or not.
use Rattle.regions.proofs.Holders.{open_none, open_past, open_is}
use Rattle.regions.proofs.check.open_holder_fits.Goals as goal

pub returns-then-mark-h : goal.returns-then-mark-h
returns-then-mark-h c = open_none _ _ _ _ c.if-mark-h.true

pub returns-then-f-h : goal.returns-then-f-h
returns-then-f-h c = open_past _ _ _ _ c.if-mark-h.false c.if-f-h.true

pub returns : goal.returns
returns c = open_is _ _ _ _ c.if-mark-h.false c.if-f-h.false c.is_ready.ensures
