-- What `finish` says that it wrote lies within the output.
use Rattle.std.proofs.Common.{rules}
use Rattle.session.proofs.Ending.{ending_within}
use Rattle.cases.proofs.feed.Feed.end.Goals as goal

pub shared_ref_as_front-write_all : goal.shared_ref_as_front-write_all
shared_ref_as_front-write_all c = let w = ending_within _ _ _ _ c.finish-written.ensures.result in search rules
