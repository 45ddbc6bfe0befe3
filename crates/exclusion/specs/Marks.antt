-- The paper's exclusion table, the mark that it gives two operations, and what it says of SIGNAL.
-- Assumes nothing.
use Rattle.std.specs.Prelude.{ℕ, Bool, true, false, not, List, [], ◌∷◌, get_or}

-- "+ excludes"
abbrev pub x : Bool
x = true

-- "marks -"
abbrev pub o : Bool
o = false

-- "rows of ten marks"
abbrev pub row : Bool → Bool → Bool → Bool → Bool → Bool → Bool → Bool → Bool → Bool → List Bool
row a b c d e f g h i j = a ∷ b ∷ c ∷ d ∷ e ∷ f ∷ g ∷ h ∷ i ∷ j ∷ []

-- "rows and columns START, STOP, END, SIGNAL, WAIT, CLEAR, ENTER, EXIT, SEND, RETRIEVE"
unfoldable pub marks : List (List Bool)
marks =
    row x x x x o o o o o o ∷  -- START
    row x x x x o o o o o o ∷  -- STOP
    row x x x x o o o o o o ∷  -- END
    row x x x x x x o o o o ∷  -- SIGNAL
    row o o o x x x o o o o ∷  -- WAIT
    row o o o x x x o o o o ∷  -- CLEAR
    row o o o o o o x x o o ∷  -- ENTER
    row o o o o o o x x o o ∷  -- EXIT
    row o o o o o o o o x x ∷  -- SEND
    row o o o o o o o o x x ∷  -- RETRIEVE
    []

-- "rows and columns": row a, column b; an operation that does not exist excludes everything
unfoldable pub mark : ℕ → ℕ → Bool
mark a b = get_or (get_or marks a []) b true

-- "3 | SIGNAL"
abbrev pub signal : ℕ
signal = 3

-- "the calls that SIGNAL's row marks -"
unfoldable pub passes_signal : ℕ → Bool
passes_signal n = not (mark signal n)
