-- A configuration in range gives its table, and task 0 is elected; any other gets 20.
use Rattle.std.proofs.Common.{sym, ◌∙◌}
use Rattle.tables.proofs.Configured.{fresh_some, fresh_none}
use Rattle.tables.proofs.configuration.fresh.Goals as goal

pub returns : goal.returns
returns c = rw c.plain.ensures (fresh_some _ _ _ _ _ _ _ (sym c.in-Some.is ∙ c.configured.ensures))

pub returns-in_default : goal.returns-in_default
returns-in_default c = c.out_of_range.ensures ∙ fresh_none _ _ _ _ _ _ (sym c.in_default.is ∙ c.configured.ensures)
