-- The parts together are the table.
use Rattle.std.proofs.Common.{ℕ, ◌∙◌}
use lib.ListN.{length-replicate}
use Rattle.rules.specs.Numbers.{store_size}
use Rattle.layout.proofs.Reading.{parts_read}
use Rattle.layout.proofs.read.unpack.Goals as goal

pub returns : goal.returns
returns c =
    let zeros = length-replicate {A = ℕ} store_size 0 in
    c.table_of.ensures
    ∙ parts_read c.args.block.now c.requires _ c.front_in.ensures _ _ zeros c.store_in.ensures.elements
    _ _ zeros c.store_in.ensures.criteria
