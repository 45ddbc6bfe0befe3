-- The bytes of the values passed stand over the old ones.
use Rattle.packing.proofs.Loops.{Putting}
use Rattle.packing.proofs.write.put.Given as goal

abbrev pub invariant-loop-x : goal.invariant-loop-x
invariant-loop-x g l = let t = g.T.Packed in Putting t.WIDTH t.to_bytes l.at l.from l.initial.block l.x-index l.start l.block
