-- What `piece` says that it wrote lies within the output, and it keeps no more bytes of a line than it may.
use Rattle.std.proofs.Common.{rules, length-take, arith}
use Rattle.session.proofs.Buffers.{written_within}
use Rattle.session.proofs.Rooms.{kept_small}
use Rattle.cases.proofs.feed.Feed.take.Goals as goal

pub invariant_of-self : goal.invariant_of-self
invariant_of-self c = record { few = kept_small _ _ (rw length-take (omega arith)) _ _ c.piece-kept.ensures.result }

pub shared_ref_as_front-write_all : goal.shared_ref_as_front-write_all
shared_ref_as_front-write_all c = let w = written_within _ _ _ _ c.piece-kept.ensures.result in search rules
