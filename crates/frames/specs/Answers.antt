-- The answer line: "status 2, value 8, key 2, elected 2", since T-08 displaced 2, and its line feed.
use Rattle.std.specs.Prelude.{ℕ, ◌+◌, cond, List, [], ◌∷◌, ◌++◌, leb, length, take, drop}
use Rattle.rules.specs.declared.Answer.{Answer}
use Rattle.digits.specs.Digits.{digits}
use Rattle.lines.specs.Ends.{line_feed}

-- 16 digits, and the line feed
abbrev pub answer_length : ℕ
answer_length = 17

unfoldable pub answer_line : Answer → List ℕ
answer_line r =
    digits 2 r.status ++ digits 8 r.value ++ digits 2 r.key ++ digits 2 r.elected ++ digits 2 r.displaced ++ line_feed ∷ []

-- the bytes written over those that stand from a place on; nothing where there is no room for all of them
unfoldable pub placed : ℕ → List ℕ → List ℕ → List ℕ
placed at bytes out =
    cond (leb (at + length bytes) (length out))
    (take at out ++ bytes ++ drop (at + length bytes) out)
    out
