-- A call line lies within the input; of any other line only the end is looked for, since it asks for nothing.
use Rattle.std.proofs.Common.{rules, sym, ◌∙◌}
use Rattle.bench_lines.proofs.LaterLines.{later_room, later_call, later_other}
use Rattle.bench_lines.proofs.later.later_line_at.Goals as goal

pub overflow_add-result : goal.overflow_add-result
overflow_add-result c = let room = later_room _ _ _ (sym c.in-Some.is ∙ c.request_at.ensures) in search rules

pub returns-in-Some : goal.returns-in-Some
returns-in-Some c = later_call _ _ _ (sym c.in-Some.is ∙ c.request_at.ensures)

pub returns-in_err-next-in-None : goal.returns-in_err-next-in-None
returns-in_err-next-in-None c = c.from_residual.ensures ∙ later_other _ _ (sym c.in-None.is ∙ c.request_at.ensures) _ c.line_from.ensures _ (sym c.in_err-next-in-None.was ∙ c.next_place.ensures)

pub returns-in_ok-next-in-None : goal.returns-in_ok-next-in-None
returns-in_ok-next-in-None c = later_other _ _ (sym c.in-None.is ∙ c.request_at.ensures) _ c.line_from.ensures _ (sym c.in_ok-next-in-None.was ∙ c.next_place.ensures)
