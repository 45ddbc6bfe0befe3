-- The code elects by the closed regions' holder, the rules by the regions' columns.
use Rattle.calls.proofs.Done.{afresh_of}
use Rattle.calls.proofs.afresh.elect_afresh.Goals as goal

pub returns : goal.returns
returns c = rw c.plain.ensures (afresh_of c.args.f.now c.args.status (rw c.closed_held.ensures at c.elect_now-next.ensures))
