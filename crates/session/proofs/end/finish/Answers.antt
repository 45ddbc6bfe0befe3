-- No byte is no line; without room nothing is written.
use Rattle.std.proofs.Common.{sym, ap, ◌∙◌, length}
use borrow.Author.Tests.{eqb-true, eqb-false}
use Rattle.frames.specs.Answers.{answer_line, placed}
use Rattle.bench_lines.specs.Steps.{malformed}
use Rattle.session.proofs.Ending.{ending_none, ending_no_room, ending_some}
use Rattle.session.proofs.end.finish.Goals as goal
use Rattle.session.proofs.end.finish.Goals.{then-is_empty-via-then-is_empty, then-is_empty-via-else-is_empty+then-out-lt-ANSWER}

pub returns-then-is_empty : goal.returns-then-is_empty
returns-then-is_empty c =
    let a = c.args in
    elim c.then-is_empty.branch [
      | then-is_empty-via-then-is_empty w ↦
          let e = ending_none a.s a.rest.now a.out.now (eqb-true (length a.rest.now) 0 (sym c.is_empty.ensures ∙ w.if-is_empty.true)) in
          record { result = e.0; written = e.1 }
      | then-is_empty-via-else-is_empty+then-out-lt-ANSWER w ↦
          let e = ending_no_room a.s a.rest.now a.out.now (eqb-false (length a.rest.now) 0 (sym c.is_empty.ensures ∙ w.if-is_empty.false)) w.if-out-lt-ANSWER.true in
          record { result = e.0; written = e.1 }
    ]

pub returns : goal.returns
unfolding malformed
returns c =
    let a = c.args in
    let e = ending_some a.s a.rest.now a.out.now (eqb-false (length a.rest.now) 0 (sym c.is_empty.ensures ∙ c.if-is_empty.false)) c.if-out-lt-ANSWER.false in
    record {
      result = e.0;
      written = c.put_answer.ensures ∙ ap (λ x. placed 0 (answer_line x) a.out.now) c.malformed_answer.ensures ∙ e.1;
    }
