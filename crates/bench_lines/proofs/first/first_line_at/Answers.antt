-- By what the reader found: a whole line lies within the input.
use Rattle.std.proofs.Common.{rules, ◌∙◌}
use Rattle.lines.proofs.Within.{whole_within}
use Rattle.bench_lines.proofs.FirstFound.{read_done, first_whole, first_too_long, first_none}
use Rattle.bench_lines.proofs.first.first_line_at.Goals as goal

pub slice_bounds-first_done-count : goal.slice_bounds-first_done-count
slice_bounds-first_done-count c = let w = whole_within _ _ _ _ _ _ c.line_from.ensures c.in-Whole.is in search rules

pub slice_bounds-first_done-start : goal.slice_bounds-first_done-start
slice_bounds-first_done-start c = let w = whole_within _ _ _ _ _ _ c.line_from.ensures c.in-Whole.is in search rules

pub slice_bounds-first_done-end : goal.slice_bounds-first_done-end
slice_bounds-first_done-end c = let w = whole_within _ _ _ _ _ _ c.line_from.ensures c.in-Whole.is in search rules

pub returns-in-Whole : goal.returns-in-Whole
returns-in-Whole c = first_whole _ _ c.line_from.ensures _ _ _ c.in-Whole.is _ (read_done c.first_done.result _ c.unwrap_or_else.ensures ∙ c.first_done.ensures)

pub returns-in-TooLong : goal.returns-in-TooLong
returns-in-TooLong c = first_too_long _ _ c.line_from.ensures _ c.in-TooLong.is _ c.first_refused.ensures

pub returns-in-Unended : goal.returns-in-Unended
returns-in-Unended c = first_none _ _ c.line_from.ensures c.in-Unended.is
