-- A piece of the input, its answers in a lent buffer: what it leaves to the next.
use Rattle.std.specs.Prelude.{ℕ, ◌*◌, ◌-◌, Bool, cond, List, ltb, length, drop}
use Rattle.frames.specs.Answers.{answer_length}
use Rattle.bench_lines.specs.declared.start.Standing.{Standing}
use Rattle.session.specs.declared.pieces.PieceEnd.{PieceEnd}
use Rattle.session.specs.Lines.{standing_after}
use Rattle.session.specs.Feed.{fitting, taken}
use Rattle.session.specs.Run.{kept}

-- no room for another answer behind those to the lines that fit
abbrev pub full : ℕ → List ℕ → Bool
full room input = ltb (room - answer_length * length (fitting room input)) answer_length

-- the next piece's front, which is what this one leaves: where there is no room for another answer, all of it, since ended lines may be left;
-- else what is left is unended
unfoldable pub piece_left : ℕ → List ℕ → List ℕ
piece_left room input =
    cond (full room input)
    (drop (taken (fitting room input)) input)
    (kept (drop (taken (fitting room input)) input))

unfoldable pub piece_result : Standing → ℕ → List ℕ → PieceEnd
piece_result s room input =
    record {
      standing = standing_after s (fitting room input);
      kept = length (piece_left room input);
      written = answer_length * length (fitting room input);
    }
