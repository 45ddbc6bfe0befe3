-- The whole run, from the bytes of the input to those of the output; and the same run over parts of the input.
use Rattle.std.specs.Prelude.{ℕ, suc, List, [], ◌∷◌, ◌++◌, take}
use Rattle.lines.specs.Ends.{longest}
use Rattle.bench_lines.specs.declared.start.Standing.{Standing}
use Rattle.bench_lines.specs.Start.{start}
use Rattle.session.specs.Ending.{ending}
use Rattle.session.specs.Lines.{cut, answers_to, standing_after}

unfoldable pub run_from : Standing → List ℕ → List ℕ
run_from s input = answers_to s (cut input).lines ++ ending (standing_after s (cut input).lines) (cut input).rest

abbrev pub run : List ℕ → List ℕ
run input = run_from start input

-- ---- in parts, which writes the same (`PartsAgree` of Theorems): what a part leaves unended stands in front of the next. Of that, one byte
-- more than a line may have is enough, since it already tells that the line is too long.

abbrev pub most_kept : ℕ
most_kept = suc longest

unfoldable pub kept : List ℕ → List ℕ
kept rest = take most_kept rest

-- the parts behind each other
abbrev pub joined : List (List ℕ) → List ℕ
joined [] = []
joined (part ∷ parts) = part ++ joined parts

-- `front` is what stands in front of the next part
unfoldable pub run_parts : Standing → List ℕ → List (List ℕ) → List ℕ
run_parts s front [] = ending s front
run_parts s front (part ∷ parts) =
    answers_to s (cut (front ++ part)).lines
    ++ run_parts (standing_after s (cut (front ++ part)).lines) (kept (cut (front ++ part)).rest) parts
