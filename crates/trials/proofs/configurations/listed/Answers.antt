-- A count of a byte lies within a list of 256.
use Rattle.std.proofs.Common.{arith, sym, length-take-le}
use Rattle.trials.proofs.configurations.listed.Goals as goal

pub slice_bounds-built-end-2 : goal.slice_bounds-built-end-2
slice_bounds-built-end-2 c = sym (length-take-le _ _ (omega (arith, c.from-2.ensures, c.all_but_last-bounds.ensures)))
