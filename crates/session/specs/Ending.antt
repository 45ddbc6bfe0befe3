-- The end of the input: bytes that no line feed ended.
use Rattle.std.specs.Prelude.{ℕ, cond, List, [], ◌∷◌, leb, length}
use Rattle.frames.specs.Answers.{answer_line}
use Rattle.bench_lines.specs.declared.start.Standing.{Standing}
use Rattle.bench_lines.specs.Steps.{malformed}

-- a line "without its line feed gets 21"; no byte is no line: "Empty input writes nothing"
unfoldable pub ending : Standing → List ℕ → List ℕ
ending s [] = []
ending s (b ∷ bs) = answer_line (malformed s.table).answer

-- how many bytes are written: nothing where there is no room for the whole line

unfoldable pub ending_length : Standing → List ℕ → ℕ → ℕ
ending_length s rest room = cond (leb (length (ending s rest)) room) (length (ending s rest)) 0
