-- The regions' entries in one number, for code that looks for the holder without a branch.
use Rattle.std.specs.Prelude.{ℕ, List, [], ◌∷◌, bit_or}

-- the bits of all of them, and those of b
unfoldable pub or_all : ℕ → List ℕ → ℕ
or_all b [] = b
or_all b (h ∷ hs) = or_all (bit_or b h) hs
