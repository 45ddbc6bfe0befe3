-- The first line is answered, or one of three things is missing.
use Rattle.std.proofs.Common.{sym, ◌∙◌}
use Rattle.session.proofs.FirstAnswer.{first_begun, first_no_room, first_no_line, first_written}
use Rattle.session.proofs.feed.first_answered.Goals as goal

pub returns-then-s : goal.returns-then-s
returns-then-s c = let a = first_begun _ _ _ _ _ c.if-s.true c.progress_of.ensures in record { result = a.0; answers = a.1 }

pub returns-then-out-lt-ANSWER : goal.returns-then-out-lt-ANSWER
returns-then-out-lt-ANSWER c =
    let a = first_no_room _ _ _ _ _ c.if-s.false c.if-out-lt-ANSWER.true c.progress_of-then-out-lt-ANSWER.ensures in
    record { result = a.0; answers = a.1 }

pub returns-in-None : goal.returns-in-None
returns-in-None c =
    let a = first_no_line _ _ _ _ _ c.if-s.false c.if-out-lt-ANSWER.false (sym c.in-None.is ∙ c.first_line_at.ensures) c.progress_of-in-None.ensures in
    record { result = a.0; answers = a.1 }

pub returns-in-Some : goal.returns-in-Some
returns-in-Some c =
    let a = first_written _ _ _ _ _ c.if-s.false c.if-out-lt-ANSWER.false _ (sym c.in-Some.is ∙ c.first_line_at.ensures) _ c.put_answer.ensures c.progress_of-in-Some.ensures in
    record { result = a.0; answers = a.1 }
