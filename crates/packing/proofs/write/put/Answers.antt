-- The bytes of the values passed stand over the old ones.
use Rattle.std.proofs.Common.{sym, ◌∙◌}
use Rattle.packing.proofs.Loops.{put_start, put_more, put_end, put_none}
use Rattle.packing.proofs.write.put.Goals as goal

pub returns-then-not-has_room : goal.returns-then-not-has_room
returns-then-not-has_room g c = put_none _ _ _ _ _ _ c.WIDTH.ensures (sym c.has_room.ensures ∙ c.if-not-has_room.true)

pub loop-x-init : goal.loop-x-init
loop-x-init g c = put_start _ _ _ _ _ _ c.WIDTH.ensures (sym c.has_room.ensures ∙ c.if-not-has_room.false)

pub loop-x-preserved : goal.loop-x-preserved
loop-x-preserved g c =
    put_more _ _ _ _ _ _ _ _ _ _ _ c.loop-x.invariant c.loop-x-test.true c.x-item.is c.WIDTH-in-loop-x.ensures c.write.ensures (g.met.T.Packed.width_kept _)

pub returns : goal.returns
returns g c = put_end _ _ _ _ _ _ _ _ c.loop-x.invariant c.loop-x-test.false
