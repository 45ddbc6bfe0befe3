-- What is shown of a bench session: one reader walks the lines of a log, and the input may be cut anywhere.
use Rattle.std.specs.Prelude.{ℕ, ◌*◌, ◌≤◌, ◌≡◌, List, [], ◌∷◌, ◌++◌, length, drop}
use Rattle.lines.specs.Reading.{behind_lines}
use Rattle.frames.specs.Answers.{answer_length}
use Rattle.bench_lines.specs.declared.start.Standing.{Standing}
use Rattle.bench_lines.specs.Start.{start}
use Rattle.session.specs.Lines.{cut}
use Rattle.session.specs.Walk.{Walks}
use Rattle.session.specs.Feed.{piece_answers}
use Rattle.session.specs.Run.{run, run_from, joined, run_parts}
use Rattle.session.specs.Pieces.{piece_left, piece_result}

-- one reader, put at the start of a log and asked for its next line again and again, gives the lines of the log in turn
abbrev pub ReaderWalks : Type 0
ReaderWalks = (log : List ℕ) → Walks log 0 (cut log).lines

-- what is left of a log behind its first n lines has the lines of the log without the first n
abbrev pub OtherLinesLeft : Type 0
OtherLinesLeft = (n : ℕ) (log : List ℕ) → (cut (behind_lines n log)).lines ≡ drop n (cut log).lines

-- however the input is cut into parts, the run over the parts writes the same bytes as the run over the whole
abbrev pub PartsAgree : Type 0
PartsAgree = (parts : List (List ℕ)) → run_parts start [] parts ≡ run (joined parts)

-- and the program runs over parts: where there is room for an answer to every byte, `piece` writes the answers of the next part, and leaves
-- the session and the bytes in front of the part behind it as that run has them
abbrev pub PieceIsPart : Type 0
PieceIsPart =
    (s : Standing) (room : ℕ) (front part : List ℕ) (parts : List (List ℕ)) → answer_length * length (front ++ part) ≤ room
    → run_parts s front (part ∷ parts)
    ≡ piece_answers s room (front ++ part) ++ run_parts (piece_result s room (front ++ part)).standing (piece_left room (front ++ part)) parts

-- however little room there is, no line is lost: the run goes on behind the answers that had room, over what `piece` leaves and then what follows
abbrev pub NothingLost : Type 0
NothingLost =
    (s : Standing) (room : ℕ) (input more : List ℕ)
    → run_from s (input ++ more) ≡ piece_answers s room input ++ run_from (piece_result s room input).standing (piece_left room input ++ more)
