-- What the check says of the table is what the call is told of it.
use Rattle.calls.proofs.call.call_checked.Goals as goal

pub returns-clause-front : goal.returns-clause-front
returns-clause-front c = (c.call_assuming.ensures c.front_valid-valid.ensures).0

pub returns-clause-elements : goal.returns-clause-elements
returns-clause-elements c = (c.call_assuming.ensures c.front_valid-valid.ensures).1.0

pub returns-clause-criteria : goal.returns-clause-criteria
returns-clause-criteria c = (c.call_assuming.ensures c.front_valid-valid.ensures).1.1
