-- What is done and what is ahead make the whole, from line to line; the store's size stays, and so does whether the table is valid.
use Rattle.std.proofs.Common.{rules, arith, ap, sym, ◌∙◌, ◌≡◌, ◌-◌, ◌/◌, [], length, true}
use Rattle.frames.specs.Answers.{answer_length}
use Rattle.session.specs.Feed.{progress_of, ahead}
use Rattle.session.proofs.PieceLoop.{going_from, going_lent, known_after, whole_again, ahead_no_room, later_no_line, later_progress_lem, later_written}
use Rattle.session.proofs.feed.feed_later.Goals as goal
use Rattle.session.proofs.feed.feed_later.Goals.{else-loop-test, then-loop-test+in_default}

pub loop-init : goal.loop-init
loop-init c =
    let all : c.answers_left-end.result - 0 ≡ (length c.args.out.now - c.args.written) / answer_length = omega (arith, c.answers_left-end.ensures) in
    record {
      goes = rw all (going_from _ _ _ _ _ _ (omega (arith, c.requires)));
      known = record { sizes = (search rules, search rules); right = c.front_valid-valid.ensures };
    }

pub overflow_add-written : goal.overflow_add-written
overflow_add-written c =
    let good = c.well_formed.1 in
    omega (arith, good.0, good.1, c.loop.invariant.goes.room, c.loop-test.true)

pub loop-preserved : goal.loop-preserved
loop-preserved c =
    let did = c.line_assuming-d.ensures c.loop.invariant.known.right in
    record {
      goes = going_lent c.loop.invariant.goes _ (sym c.in-Some.is ∙ c.later_line_at.ensures) _ (omega (arith, c.loop-test.true)) did _ c.put_answer.ensures;
      known = known_after _ did c.loop.invariant.known;
    }

-- where the loop ends, nothing is ahead: there is no room, or no line is ended
nothing_ahead : (c : goal.After-progress_of) → ahead c.args.input.now c.loop.at (c.answers_left-end.result - c.loop.counter) ≡ []
nothing_ahead c =
    elim c.loop-test.branch [
      | else-loop-test w ↦ ahead_no_room c.args.input.now c.loop.at _ (omega (arith, w.loop-test.false))
      | then-loop-test+in_default w ↦ later_no_line _ _ _ _ w.later_line_at.ensures w.in_default.not-Some
    ]

pub returns-clause-result : goal.returns-clause-result
returns-clause-result c =
    let t = whole_again c.args.t _ _ c.front_of-f.ensures c.store_of-store.ensures in
    let g = rw t at c.loop.invariant.goes in
    c.progress_of.ensures ∙ ap (λ u. progress_of u true c.loop.at c.loop.written) c.table_of.ensures ∙ later_progress_lem _ _ _ _ _ _ _ _ _ _ g (nothing_ahead c)

pub returns-clause-answers : goal.returns-clause-answers
returns-clause-answers c =
    let t = whole_again c.args.t _ _ c.front_of-f.ensures c.store_of-store.ensures in
    let g = rw t at c.loop.invariant.goes in
    later_written _ _ _ _ _ _ _ _ _ _ g (nothing_ahead c)
