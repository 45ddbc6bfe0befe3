-- Where a reader of lines goes on: "one frame a line, each ended by a line feed".
use Rattle.std.specs.Prelude.{ℕ, zero, suc, ◌+◌, List, length, drop}
use Rattle.lines.specs.declared.ends.Line.{Line}
use Rattle.lines.specs.declared.ends.Line.TheVariants.{Whole, TooLong, Unended, Nothing}
use Rattle.lines.specs.Ends.{line_length}

-- the place behind a line of a log: behind its line feed, and the log's end where no line feed ends it
abbrev pub place_after : List ℕ → Line → ℕ
place_after s (Whole start end next) = next
place_after s (TooLong next) = next
place_after s Unended = length s
place_after s Nothing = length s

-- what stands behind the first line of a log: behind its first line feed, and nothing where it has none
abbrev pub behind_line : List ℕ → List ℕ
behind_line log = drop (line_length log + 1) log

-- what stands behind the first n lines of a log
abbrev pub behind_lines : ℕ → List ℕ → List ℕ
behind_lines zero log = log
behind_lines (suc n) log = behind_lines n (behind_line log)
