-- "Packing then unpacking gives a valid table back, and unpacking an accepted block then packing gives its bytes back."
use Rattle.std.specs.Prelude.{ℕ, ◌≡◌, true, false, List, length, replicate}
use Rattle.rules.specs.declared.Table.{Table}
use Rattle.rules.specs.Validity.{valid}
use Rattle.layout.specs.Layout.{block_size, unpacked, packed, unused_zero, is_table}
use Rattle.block_theorems.specs.Ranges.{are_bytes, elements_in_range}

-- the block of a table: of the one size, of bytes, accepted, and with the table in it
pub record Packs (t : Table) : Type 0 where
  pub size : length (packed t) ≡ block_size
  pub bytes : are_bytes (packed t) ≡ true
  pub accepted : is_table (packed t) ≡ true
  pub back : unpacked (packed t) ≡ t

abbrev pub PackThenUnpack : Type 0
PackThenUnpack = (t : Table) → valid t ≡ true → elements_in_range t ≡ true → Packs t

-- every block of the one size whose unused bytes are 0, valid or not
abbrev pub BytesBack : Type 0
BytesBack =
    (block : List ℕ) → are_bytes block ≡ true → length block ≡ block_size → unused_zero block ≡ true → packed (unpacked block) ≡ block

-- an accepted block: the table in it is valid, with elements in range, and its bytes are this block
pub record Unpacks (block : List ℕ) : Type 0 where
  pub right : valid (unpacked block) ≡ true
  pub elements : elements_in_range (unpacked block) ≡ true
  pub back : packed (unpacked block) ≡ block

abbrev pub UnpackThenPack : Type 0
UnpackThenPack = (block : List ℕ) → are_bytes block ≡ true → is_table block ≡ true → Unpacks block

-- "its 20 leaves the block all 0", which is not a table
abbrev pub ZerosRefused : Type 0
ZerosRefused = is_table (replicate block_size 0) ≡ false
