-- The choice reads the urgencies of those in line alone.
use Rattle.urgency.proofs.Heirs.{heir_chosen}
use Rattle.urgency.proofs.heir.heir_of.Goals as goal

pub returns : goal.returns
returns c =
    rw (← heir_chosen _ _ _ _ _ c.best_ready-first.ensures c.line_of-waiting.ensures c.line_urgencies-urgency.ensures) c.then_some.ensures
