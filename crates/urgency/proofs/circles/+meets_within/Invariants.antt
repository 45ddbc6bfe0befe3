-- A step less is left.
use Rattle.urgency.proofs.circles.+meets_within.Given as goal

abbrev pub decreases-meets_within : goal.decreases-meets_within
decreases-meets_within l = l.left
