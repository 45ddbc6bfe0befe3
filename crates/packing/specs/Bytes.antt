-- Values in bytes, one behind the other; and numbers, the lowest byte first: one definition for every width.
use Rattle.std.specs.Prelude.{ℕ, zero, suc, ◌+◌, ◌*◌, ◌/◌, ◌%◌, Bool, cond, List, [], ◌∷◌, ◌++◌, leb, length, take, drop}

-- ---- how many bytes a number has

abbrev pub half_width : ℕ
half_width = 2

abbrev pub word_width : ℕ
word_width = 4

-- ---- values of every kind: `from` gives the value that its bytes stand for, `to` the bytes of a value

-- as many values of `width` bytes each, from the front
unfoldable pub values_in : {A : Type 0} → ℕ → (List ℕ → A) → ℕ → List ℕ → List A
values_in width from zero bs = []
values_in width from (suc count) bs = from (take width bs) ∷ values_in width from count (drop width bs)

-- the bytes of the values one behind the other
unfoldable pub values_bytes : {A : Type 0} → (A → List ℕ) → List A → List ℕ
values_bytes to [] = []
values_bytes to (x ∷ xs) = to x ++ values_bytes to xs

-- the block with these bytes written over those from a place on
unfoldable pub over : ℕ → List ℕ → List ℕ → List ℕ
over at bs block = take at block ++ bs ++ drop (at + length bs) block

-- whether a block of this size has so many numbers of `width` bytes from a place on
abbrev pub has_room : ℕ → ℕ → ℕ → ℕ → Bool
has_room size at width count = leb (at + width * count) size

-- as many values from a place on as there were old ones; the old ones where the block ends before
unfoldable pub values_taken : {A : Type 0} → ℕ → (List ℕ → A) → ℕ → List ℕ → List A → List A
values_taken width from at block old =
    cond (has_room (length block) at width (length old)) (values_in width from (length old) (drop at block)) old

-- the block with the values written from a place on; the block as it was where it ends before
unfoldable pub values_put : {A : Type 0} → ℕ → (A → List ℕ) → ℕ → List A → List ℕ → List ℕ
values_put width to at xs block = cond (has_room (length block) at width (length xs)) (over at (values_bytes to xs) block) block

-- ---- numbers and their bytes

-- the number that the bytes stand for
unfoldable pub number : List ℕ → ℕ
number [] = 0
number (b ∷ bs) = b + 256 * number bs

-- the `width` lowest bytes of a number
unfoldable pub bytes : ℕ → ℕ → List ℕ
bytes zero n = []
bytes (suc width) n = n % 256 ∷ bytes width (n / 256)

-- as many numbers of `width` bytes each, from the front
abbrev pub numbers : ℕ → ℕ → List ℕ → List ℕ
numbers width count bs = values_in width number count bs

-- the bytes of the numbers one behind the other
abbrev pub spread : ℕ → List ℕ → List ℕ
spread width ns = values_bytes (bytes width) ns

-- as many numbers from a place on as there were old ones; the old ones where the block ends before
abbrev pub taken : ℕ → ℕ → List ℕ → List ℕ → List ℕ
taken width at block old = values_taken width number at block old

-- the block with the numbers written from a place on; the block as it was where it ends before
abbrev pub put : ℕ → ℕ → List ℕ → List ℕ → List ℕ
put width at ns block = values_put width (bytes width) at ns block
