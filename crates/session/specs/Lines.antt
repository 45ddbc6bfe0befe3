-- Lines cut from bytes, and what they do one after the other.
use Rattle.std.specs.Prelude.{ℕ, true, cond, List, [], ◌∷◌, ◌++◌, eqb}
use Rattle.lines.specs.Ends.{line_feed}
use Rattle.frames.specs.Answers.{answer_line}
use Rattle.bench_lines.specs.declared.start.Standing.{Standing}
use Rattle.bench_lines.specs.Steps.{line_done}

-- ---- lines, "each ended by a line feed", and the bytes behind the last of them

pub record Cut : Type 0 where
  pub lines : List (List ℕ)
  pub rest : List ℕ

-- one byte more in front of the first line, or of the rest where there is no line
abbrev pub onto : ℕ → List (List ℕ) → List ℕ → Cut
onto b [] rest = record { lines = []; rest = b ∷ rest }
onto b (line ∷ lines) rest = record { lines = (b ∷ line) ∷ lines; rest = rest }

unfoldable pub cut : List ℕ → Cut
cut [] = record { lines = []; rest = [] }
cut (b ∷ bs) =
    cond (eqb b line_feed)
    (record { lines = [] ∷ (cut bs).lines; rest = (cut bs).rest })
    (onto b (cut bs).lines (cut bs).rest)

-- ---- line by line

abbrev pub after : Standing → List ℕ → Standing
after s line = record { table = (line_done s line).table; begun = true }

-- "One answer line for each line"
unfoldable pub answers_to : Standing → List (List ℕ) → List ℕ
answers_to s [] = []
answers_to s (line ∷ lines) = answer_line (line_done s line).answer ++ answers_to (after s line) lines

-- where the session stands behind the lines
unfoldable pub standing_after : Standing → List (List ℕ) → Standing
standing_after s [] = s
standing_after s (line ∷ lines) = standing_after (after s line) lines
