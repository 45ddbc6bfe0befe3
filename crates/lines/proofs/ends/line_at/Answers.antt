-- By whether anything stands there, and by where its first line feed is.
use Rattle.std.proofs.Common.{sym, ◌∙◌, length}
use borrow.Author.Tests.{eqb-true, eqb-false}
use Rattle.lines.proofs.Search.{line_nothing, line_unended, line_too_long, line_whole}
use Rattle.lines.proofs.ends.line_at.Goals as goal

pub returns-then-is_empty : goal.returns-then-is_empty
returns-then-is_empty c = line_nothing _ _ _ c.rest_at-rest.ensures (eqb-true (length c.rest_at-rest.result.now) 0 (sym c.is_empty.ensures ∙ c.if-is_empty.true))

pub returns-in-None : goal.returns-in-None
returns-in-None c = line_unended _ _ _ c.rest_at-rest.ensures (eqb-false (length c.rest_at-rest.result.now) 0 (sym c.is_empty.ensures ∙ c.if-is_empty.false)) (sym c.in-None.is ∙ c.line_feed_in.ensures)

pub returns-in-Some : goal.returns-in-Some
returns-in-Some c = line_too_long _ _ _ c.rest_at-rest.ensures (eqb-false (length c.rest_at-rest.result.now) 0 (sym c.is_empty.ensures ∙ c.if-is_empty.false)) _ (sym c.in-Some.is ∙ c.line_feed_in.ensures) c.if-n-gt-LONGEST.true

pub returns-in-Some-2 : goal.returns-in-Some-2
returns-in-Some-2 c = line_whole _ _ _ c.rest_at-rest.ensures (eqb-false (length c.rest_at-rest.result.now) 0 (sym c.is_empty.ensures ∙ c.if-is_empty.false)) _ (sym c.in-Some.is ∙ c.line_feed_in.ensures) c.if-n-gt-LONGEST.false
