-- "a reader that walks the lent lines and remembers its place": what it gives from a place on, asked again and again.
use Rattle.std.specs.Prelude.{ℕ, ◌<◌, ◌≡◌, List, [], ◌∷◌, length}
use Rattle.lines.specs.declared.ends.Line.{Line}
use Rattle.lines.specs.declared.ends.Line.TheVariants.{Whole, TooLong, Unended, Nothing}
use Rattle.lines.specs.Ends.{line_at, longest, part}
use Rattle.lines.specs.Reading.{place_after}

-- what is given is this line of the log: its bytes, or that it is too long
abbrev pub Gives : List ℕ → Line → List ℕ → Type 0
Gives log (Whole start end next) line = part start end log ≡ line
Gives log (TooLong next) line = longest < length line
Gives log Unended line = ⊥
Gives log Nothing line = ⊥

-- no ended line is given
abbrev pub GivesNone : Line → Type 0
GivesNone (Whole start end next) = ⊥
GivesNone (TooLong next) = ⊥
GivesNone Unended = Unit {0}
GivesNone Nothing = Unit {0}

-- from a place on, `next_line` on one reader gives these lines in turn, and then no more: each time what its contract says of the line and of
-- the place that the reader remembers
unfoldable pub Walks : List ℕ → ℕ → List (List ℕ) → Type 0
Walks log at [] = GivesNone (line_at log at)
Walks log at (line ∷ lines) = Gives log (line_at log at) line × Walks log (place_after log (line_at log at)) lines
