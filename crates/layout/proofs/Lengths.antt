-- Writing keeps the size of a block.
use Rattle.std.proofs.Common.{ℕ, ◌+◌, ◌*◌, ◌≡◌, refl, Bool, true, false, List, arith, leb, length, length-append, length-drop, length-take-le, leb-true}
use Rattle.packing.specs.Bytes.{values_put, over, put}
use Rattle.packing.proofs.RoundTrips.{spread_length}

pub put_length : (width at : ℕ) (ns block : List ℕ) → length (put width at ns block) ≡ length block
unfolding values_put over
put_length width at ns block = go (leb (at + width * length ns) (length block)) refl
  where
    go : (b : Bool) → leb (at + width * length ns) (length block) ≡ b → length (put width at ns block) ≡ length block
    go true h =
        let fits = leb-true (at + width * length ns) (length block) h in
        rw (h, length-append, length-append, length-take-le at block (omega arith), spread_length, length-drop) (omega arith)
    go false h = rw h
