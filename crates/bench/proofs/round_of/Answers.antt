-- What is read stands behind what is kept, and what is answered fits the output.
use Rattle.std.proofs.Common.{rules, length, ◌-◌}
use borrow.Rule.Slice.PartMut.{take_put}
use Rattle.bench.proofs.Rounds.{did_end, did_part}
use Rattle.bench.proofs.round_of.Goals as goal

pub returns-then-n-eq0 : goal.returns-then-n-eq0
returns-then-n-eq0 c =
    let old = c.args.buffer.now in
    let same = take_put c.args.kept (length old - c.args.kept) old c.read-got.new.buf (search rules) in
    let ended = c.finish-written.ensures in
    did_end _ c.args.kept old _ c.args.out.now same (search rules) (search rules) _ ended.result _ ended.written

pub returns : goal.returns
returns c =
    let old = c.args.buffer.now in
    let same = take_put c.args.kept (length old - c.args.kept) old c.read-got.new.buf (search rules) in
    let piece = c.piece-p.ensures in
    did_part _ c.args.kept c.unwrap_or-n.result old _ c.args.out.now same (search rules) (search rules) (search rules) _
    piece.result _ _ piece.left piece.answers
