-- The lines end within the piece, and what they leave is moved to the front.
use Rattle.std.proofs.Common.{rules}
use Rattle.session.proofs.Buffers.{next_within, lines_fit, answers_there, front_fits, left_moved, piece_result_lem}
use Rattle.session.proofs.pieces.piece.Goals as goal

pub overflow_sub-to : goal.overflow_sub-to
overflow_sub-to c =
    next_within _ _ _ _ _ c.min-to.ensures _ c.feed-p.ensures.result

pub bytes_kept-n-requires : goal.bytes_kept-n-requires
bytes_kept-n-requires c =
    lines_fit _ _ _ _ _ c.min-to.ensures _ c.feed-p.ensures.result

pub to_front-requires : goal.to_front-requires
to_front-requires c =
    let w = front_fits _ _ _ _ _ c.min-to.ensures _ c.feed-p.ensures.result _ c.bytes_kept-n.ensures in
    search rules

pub returns-clause-result : goal.returns-clause-result
returns-clause-result c =
    let kept = c.bytes_kept-n.ensures in
    let to = c.min-to.ensures in
    let came = c.feed-p.ensures.result in
    piece_result_lem _ _ _ _ _ to _ came _ kept

pub returns-clause-left : goal.returns-clause-left
returns-clause-left c =
    let kept = c.bytes_kept-n.ensures in
    let to = c.min-to.ensures in
    let came = c.feed-p.ensures.result in
    left_moved _ _ _ _ _ to _ came _ kept _ c.to_front.ensures

pub returns-clause-answers : goal.returns-clause-answers
returns-clause-answers c =
    let kept = c.bytes_kept-n.ensures in
    let to = c.min-to.ensures in
    let came = c.feed-p.ensures.result in
    answers_there _ _ _ _ _ to _ came _ _ c.feed-p.ensures.answers
