-- What is in a block already need not be written.
use Rattle.std.proofs.Common.{ℕ, ◌+◌, ◌*◌, ◌≡◌, refl, sym, ap, ◌∙◌, true, List, append_assoc, arith, leb, length, take, drop, length-drop, take-append-drop, drop_at, drop-drop, length-take-le, leb-true}
use Rattle.rules.specs.Numbers.{store_size}
use Rattle.rules.specs.Words.{every}
use Rattle.tables.specs.declared.front.Front.{Front}
use Rattle.tables.specs.Fronts.{whole}
use Rattle.packing.specs.Bytes.{values_put, word_width, spread, over, put}
use Rattle.packing.proofs.RoundTrips.{is_byte, numbers_length}
use Rattle.layout.specs.Layout.{element_place, criterion_place, block_size, part, unpacked, packed}
use Rattle.layout.proofs.Back.{column}
use Rattle.layout.proofs.Sizes.{Sized}
use Rattle.layout.specs.Heads.{head_put}
use Rattle.layout.specs.Wholes.{tail_put, whole_put, front_packed}
use Rattle.layout.proofs.Writing.{written_length, head_of, head_next, whole_put_lem}

module _ (old block : List ℕ) (small : every is_byte old ≡ true) (size : length old ≡ block_size) (long : length block ≡ block_size) where
  put_own : (place width count : ℕ) → leb (place + width * count) block_size ≡ true → drop place block ≡ drop place old
      → put width place (part place width count old) block ≡ block
  unfolding values_put over
  put_own place width count h same =
      let fits = leb-true (place + width * count) block_size h in
      let own : spread width (part place width count old) ≡ take (width * count) (drop place block) =
      column old small size place width count fits ∙ ap (take (width * count)) (sym same)
      in
      let rest : drop (place + width * count) block ≡ drop (width * count) (drop place block) = sym (drop-drop (width * count) place block) in
      let much : length (take (width * count) (drop place block)) ≡ width * count = length-take-le (width * count) (drop place block) (rw (length-drop, long) (omega arith)) in
      rw (numbers_length, long, h, own, much, rest)
      (append_assoc (take place block) (take (width * count) (drop place block)) (drop (width * count) (drop place block))
      ∙ rw (take-append-drop (width * count) (drop place block)) (take-append-drop place block))

-- the front written over a block is the table with the block's own store
pub front_back : (f : Front) (block : List ℕ) → every is_byte block ≡ true → length block ≡ block_size
    → Sized (whole f (unpacked block).element (unpacked block).criterion)
    → front_packed f block ≡ packed (whole f (unpacked block).element (unpacked block).criterion)
unfolding front_packed whole_put unpacked
front_back f block small size s =
    let head = head_next f (unpacked block).element (unpacked block).criterion block s size in
    let long = written_length block size element_place (head_of f) (head_put f block) (omega arith) head in
    let same : drop element_place (head_put f block) ≡ drop element_place block = ap (drop element_place) head.whole ∙ drop_at (head_of f) (drop element_place block) element_place head.long in
    let behind : drop criterion_place (head_put f block) ≡ drop criterion_place block =
    sym (drop-drop (word_width * store_size) element_place (head_put f block)) ∙ ap (drop (word_width * store_size)) same ∙ drop-drop (word_width * store_size) element_place block
    in
    let elements = sym (put_own block (head_put f block) small size long element_place word_width store_size refl same) in
    let criteria = sym (put_own block (head_put f block) small size long criterion_place 1 store_size refl behind) in
    ap (tail_put f.ticks f.timers) (criteria ∙ ap (put 1 criterion_place (unpacked block).criterion) elements)
    ∙ whole_put_lem f (unpacked block).element (unpacked block).criterion block s size
