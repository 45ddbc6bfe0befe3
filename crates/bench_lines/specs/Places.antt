-- The line that begins at a place, the first or a later one, and where the next one begins.
use Rattle.std.specs.Prelude.{ℕ, List, Option, Some, None}
use Rattle.rules.specs.declared.Call.{Call}
use Rattle.rules.specs.declared.Done.{Done}
use Rattle.lines.specs.declared.ends.Line.{Line}
use Rattle.lines.specs.declared.ends.Line.TheVariants.{Whole, TooLong, Unended, Nothing}
use Rattle.lines.specs.Ends.{line_at, part}
use Rattle.bench_lines.specs.declared.first.FirstLine.{FirstLine}
use Rattle.bench_lines.specs.declared.later.LaterLine.{LaterLine}
use Rattle.bench_lines.specs.Start.{first_refused}
use Rattle.bench_lines.specs.First.{first_done}
use Rattle.bench_lines.specs.Steps.{request_in}

-- the place behind a line, where it is ended
abbrev pub next_place : Line → Option ℕ
next_place (Whole from to next) = Some next
next_place (TooLong next) = Some next
next_place Unended = None
next_place Nothing = None

-- ---- the first line: what it does, where it is ended

abbrev pub first_line_with : Done → ℕ → FirstLine
first_line_with d next = record { done = d; next = next }

abbrev pub first_line_by : List ℕ → Line → Option FirstLine
first_line_by input (Whole from to next) = Some (first_line_with (first_done (part from to input)) next)
first_line_by input (TooLong next) = Some (first_line_with (first_refused 21) next)
first_line_by input Unended = None
first_line_by input Nothing = None

unfoldable pub first_line_at : List ℕ → Option FirstLine
first_line_at input = first_line_by input (line_at input 0)

-- ---- a later line: what it asks for, where it is ended

abbrev pub later_line_with : Option Call → ℕ → LaterLine
later_line_with r next = record { request = r; next = next }

abbrev pub later_line_by : List ℕ → Line → Option LaterLine
later_line_by input (Whole from to next) = Some (later_line_with (request_in (part from to input)) next)
later_line_by input (TooLong next) = Some (later_line_with None next)
later_line_by input Unended = None
later_line_by input Nothing = None

unfoldable pub later_line_at : List ℕ → ℕ → Option LaterLine
later_line_at input at = later_line_by input (line_at input at)
