-- A step less is left.
use Rattle.urgency.proofs.circles.+ends_of.Given as goal

abbrev pub decreases-ends_of : goal.decreases-ends_of
decreases-ends_of l = l.left
