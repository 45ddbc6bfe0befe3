-- One bit is added to the events, and the task wakes exactly where the condition is met.
use Rattle.tasks.proofs.Signals.{bit_is, wakes_is, stays_is}
use Rattle.tasks.proofs.signal.signalled_by.Goals as goal

pub returns-then-wakes : goal.returns-then-wakes
returns-then-wakes c = wakes_is _ _ _ _ (bit_is _) c.met_by.ensures c.if-wakes.true

pub returns : goal.returns
returns c = stays_is _ _ _ _ (bit_is _) c.met_by.ensures c.if-wakes.false
