-- The later lines go on where the first line left off.
use Rattle.session.proofs.PieceLoop.{first_within, none_begun, later_answered}
use Rattle.session.proofs.feed.feed.Goals as goal

pub returns-then-not-p : goal.returns-then-not-p
returns-then-not-p c =
    let first = c.first_answered-p.ensures in
    let a = none_begun _ _ _ _ _ first.result first.answers c.if-not-p.true in
    record { result = a.0; answers = a.1 }

pub feed_later-requires : goal.feed_later-requires
feed_later-requires c =
    let first = c.first_answered-p.ensures in
    first_within _ _ _ _ _ first.result first.answers

pub returns : goal.returns
returns c =
    let first = c.first_answered-p.ensures in
    let later = c.feed_later.ensures in
    let a = later_answered _ _ _ _ _ first.result first.answers c.if-not-p.false _ _ later.result later.answers in
    record { result = a.0; answers = a.1 }
