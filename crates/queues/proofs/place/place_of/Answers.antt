-- A part that is not there holds nothing; of one that is there the first place of the wanted criterion counts from its start.
use Rattle.std.proofs.Common.{rules, ◌∙◌}
use Rattle.queues.proofs.Found.{no_part, none_found, one_found}
use Rattle.queues.proofs.place.place_of.Goals as goal

pub returns-in_err-criteria : goal.returns-in_err-criteria
returns-in_err-criteria c = c.from_residual.ensures ∙ no_part _ _ _ _ c.in_err-criteria.ensures.lookup.0 (search rules)

pub returns-in_err-i : goal.returns-in_err-i
returns-in_err-i c =
    let part = c.in_ok-criteria.ensures.lookup.0 in
    c.from_residual-in_err-i.ensures
    ∙ none_found _ _ _ _ part.0 part.1 (search rules) part.2 part.3 c.wanted_of-wanted.ensures c.in_err-i.ensures

pub returns : goal.returns
returns c =
    let part = c.in_ok-criteria.ensures.lookup.0 in
    one_found _ _ _ _ part.0 part.1 (search rules) part.2 part.3 c.wanted_of-wanted.ensures c.in_ok-i.ensures
