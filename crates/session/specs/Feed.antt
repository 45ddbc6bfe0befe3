-- The ended lines of a piece of the input, answered into a lent buffer: as many as it has room for.
use Rattle.std.specs.Prelude.{ℕ, suc, ◌+◌, ◌*◌, ◌-◌, ◌/◌, Bool, true, cond, not, ◌&&◌, List, [], ◌∷◌, ◌++◌, leb, length, take, drop, Option, Some, None}
use Rattle.rules.specs.declared.Table.{Table}
use Rattle.frames.specs.Answers.{answer_length, answer_line, placed}
use Rattle.bench_lines.specs.declared.start.Standing.{Standing}
use Rattle.bench_lines.specs.declared.first.FirstLine.{FirstLine}
use Rattle.bench_lines.specs.Start.{standing}
use Rattle.bench_lines.specs.Places.{first_line_at}
use Rattle.session.specs.declared.feed.Progress.{Progress}
use Rattle.session.specs.Lines.{cut, answers_to, standing_after}

-- ---- the lines of a piece

-- the lines that are answered, where the buffer has so many bytes
unfoldable pub fitting : ℕ → List ℕ → List (List ℕ)
fitting room input = take (room / answer_length) (cut input).lines

-- how many bytes the lines take, each with its line feed
unfoldable pub taken : List (List ℕ) → ℕ
taken [] = 0
taken (line ∷ lines) = suc (length line) + taken lines

-- bytes written over the front of others
abbrev pub over : List ℕ → List ℕ → List ℕ
over bytes out = bytes ++ drop (length bytes) out

unfoldable pub piece_answers : Standing → ℕ → List ℕ → List ℕ
piece_answers s room input = answers_to s (fitting room input)

-- ---- how far they have come

abbrev pub progress_of : Table → Bool → ℕ → ℕ → Progress
progress_of t begun next written = record { standing = standing t begun; next = next; written = written }

-- behind the lines that begin at a place, where so many bytes are written already
abbrev pub progress_after : Standing → ℕ → ℕ → List (List ℕ) → Progress
progress_after s at written lines =
    record { standing = standing_after s lines; next = at + taken lines; written = written + answer_length * length lines }

-- the first line, where it is answered: the session stands before it, there is room for its answer, and it is ended
unfoldable pub answers_first : Standing → ℕ → List ℕ → Option FirstLine
answers_first s room input = cond (not s.begun && leb answer_length room) (first_line_at input) None

-- how far that comes, and what it leaves of the buffer
abbrev pub come_first : Standing → Option FirstLine → Progress
come_first s (Some line) = progress_of line.done.table true line.next answer_length
come_first s None = progress_of s.table s.begun 0 0

abbrev pub written_first : Option FirstLine → List ℕ → List ℕ
written_first (Some line) out = placed 0 (answer_line line.done.answer) out
written_first None out = out

unfoldable pub first_progress : Standing → ℕ → List ℕ → Progress
first_progress s room input = come_first s (answers_first s room input)

unfoldable pub first_out : Standing → List ℕ → List ℕ → List ℕ
first_out s input out = written_first (answers_first s (length out) input) out

-- the lines from a place on, as many as there may be
abbrev pub ahead : List ℕ → ℕ → ℕ → List (List ℕ)
ahead input at left = take left (cut (drop at input)).lines

-- the later lines from a place on, where so many bytes are written and the buffer has so many
abbrev pub later_lines : List ℕ → ℕ → ℕ → ℕ → List (List ℕ)
later_lines input at written room = ahead input at ((room - written) / answer_length)

unfoldable pub later_progress : Table → List ℕ → ℕ → ℕ → ℕ → Progress
later_progress t input at written room = progress_after (standing t true) at written (later_lines input at written room)

unfoldable pub later_out : Table → List ℕ → ℕ → ℕ → List ℕ → List ℕ
later_out t input at written out =
    (take written out ++ answers_to (standing t true) (later_lines input at written (length out)))
    ++ drop (written + answer_length * length (later_lines input at written (length out))) out

unfoldable pub feed_progress : Standing → ℕ → List ℕ → Progress
feed_progress s room input = progress_after s 0 0 (fitting room input)
