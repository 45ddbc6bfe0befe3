-- The values passed have been read, and the old ones stand behind them.
use Rattle.std.proofs.Common.{sym, ◌∙◌}
use Rattle.packing.proofs.Loops.{take_start, take_more, take_end, take_none}
use Rattle.packing.proofs.read.take.Goals as goal

pub returns-then-not-has_room : goal.returns-then-not-has_room
returns-then-not-has_room g c = take_none _ _ _ _ _ _ c.WIDTH.ensures (sym c.has_room.ensures ∙ c.if-not-has_room.true)

pub loop-x-init : goal.loop-x-init
loop-x-init g c = take_start _ _ _ _ _ _ c.WIDTH.ensures (sym c.has_room.ensures ∙ c.if-not-has_room.false)

pub loop-x-preserved : goal.loop-x-preserved
loop-x-preserved g c =
    take_more _ _ _ _ _ _ _ _ _ _ c.loop-x.invariant c.loop-x-test.true c.WIDTH-in-loop-x.ensures c.read.ensures

pub returns : goal.returns
returns g c = take_end _ _ _ _ _ _ _ _ c.loop-x.invariant c.loop-x-test.false
