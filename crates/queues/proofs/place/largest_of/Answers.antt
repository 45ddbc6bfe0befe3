-- What the fold makes is the largest.
use Rattle.std.proofs.Common.{◌≡◌, max, rules, ◌∙◌}
use Rattle.std.specs.List.{fold}
use Rattle.queues.proofs.Found.{largest_folded}
use Rattle.queues.proofs.place.largest_of.Goals as goal

pub returns : goal.returns
returns c = let all : c.fold.result ≡ fold max 0 c.args.criteria.now = search rules in all ∙ largest_folded _
