-- The two round trips: a valid table through its block, and an accepted block through its table.
use Rattle.std.proofs.Common.{ℕ, ◌<◌, ◌≡◌, refl, Bool, true, false, List, arith, drop, replicate, eqb-true, eq-eqb, ltb-true}
use lib.ListN.{get_or-replicate}
use Rattle.rules.specs.Numbers.{store_size}
use Rattle.rules.specs.Validity.{counts_in_range}
use Rattle.rules.proofs.Bools.{given, shown}
use Rattle.rules.proofs.Lists.{every_drop}
use Rattle.rules.proofs.Validity.{parts_of}
use Rattle.packing.specs.Bytes.{word_width}
use Rattle.packing.proofs.RoundTrips.{is_byte, numbers_fit}
use Rattle.layout.specs.Layout.{element_place, block_size, unpacked, is_table}
use Rattle.block_theorems.specs.Packed.{PackThenUnpack, UnpackThenPack, ZerosRefused}
use Rattle.block_theorems.proofs.Fitting.{sized, fitting}
use Rattle.block_theorems.proofs.Layouts.{packed_small, packed_size, packed_back, packed_unused, bytes_back}

pub pack_then_unpack : PackThenUnpack
unfolding is_table
pack_then_unpack t v e =
    let p = parts_of t v in
    let s = sized t p.shape in
    let f = fitting t p e in
    let size = packed_size t s in
    let back = packed_back t s f in
    record {
      size = size;
      bytes = packed_small t;
      accepted = shown _ (eq-eqb _ _ size, (packed_unused t s f, (rw back v, tt)));
      back = back;
    }

pub unpack_then_pack : UnpackThenPack
unfolding is_table unpacked
unpack_then_pack block small h =
    let (size, (zeros, (right, u))) = given _ h in
    record {
      right = right;
      elements = numbers_fit word_width store_size (drop element_place block) (every_drop is_byte element_place block small);
      back = bytes_back block small (eqb-true _ _ size) zeros;
    }

-- a table has a task, a block of zeros none
pub zeros_refused : ZerosRefused
unfolding is_table unpacked counts_in_range
zeros_refused = go (is_table zeros) refl
  where
    zeros : List ℕ
    zeros = replicate block_size 0

    go : (b : Bool) → is_table zeros ≡ b → is_table zeros ≡ false
    go true e =
        let (size, (unused, (right, u))) = given _ e in
        let some : 0 < (unpacked zeros).tasks = ltb-true 0 _ (given _ (parts_of (unpacked zeros) right).counts).0 in
        let none : (unpacked zeros).tasks ≡ 0 = get_or-replicate block_size 0 0 0 (omega arith) in
        absurd (omega arith)
    go false e = e
