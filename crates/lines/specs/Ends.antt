-- Where a line ends: "one frame a line, each ended by a line feed".
use Rattle.std.specs.Prelude.{ℕ, ◌+◌, ◌-◌, cond, List, eqb, ltb, length, take, drop}
use Rattle.rules.specs.Queues.{before}
use Rattle.lines.specs.declared.ends.Line.{Line}
use Rattle.lines.specs.declared.ends.Line.TheVariants.{Whole, TooLong, Unended, Nothing}

abbrev pub line_feed : ℕ
line_feed = 10

-- "over 128 characters before its line feed" is malformed; since T-07 "the longest line becomes 192"
abbrev pub longest : ℕ
longest = 192

-- how many bytes stand before the first line feed; all of them where there is none
abbrev pub line_length : List ℕ → ℕ
line_length bs = before line_feed bs

-- the line that begins at a place, where `rest` is what stands from there on, of whose bytes n come before the first line feed
unfoldable pub line_in : ℕ → ℕ → List ℕ → Line
line_in at n rest =
    cond (eqb (length rest) 0) Nothing
    (cond (eqb n (length rest)) Unended
    (cond (ltb longest n) (TooLong (at + n + 1))
    (Whole at (at + n) (at + n + 1))))

unfoldable pub line_at : List ℕ → ℕ → Line
line_at s at = line_in at (line_length (drop at s)) (drop at s)

-- the bytes from a place up to another
abbrev pub part : ℕ → ℕ → List ℕ → List ℕ
part from to bytes = take (to - from) (drop from bytes)
