-- The values passed have been read, and the old ones stand behind them.
use Rattle.packing.proofs.Loops.{Taking}
use Rattle.packing.proofs.read.take.Given as goal

abbrev pub invariant-loop-x : goal.invariant-loop-x
invariant-loop-x g l = let t = g.T.Packed in Taking t.WIDTH t.from_bytes l.at l.block l.initial.into l.x-index l.start l.into
