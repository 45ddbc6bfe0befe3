-- What RETRIEVE takes from a part of the flat store, for any two ends: a part that is not there holds nothing.
use Rattle.std.specs.Prelude.{ℕ, ◌+◌, cond, ◌&&◌, List, Option, Some, None, leb, ltb}
use Rattle.std.proofs.Math.Seq.{slice}
use Rattle.rules.specs.Numbers.{store_size}
use Rattle.rules.specs.Queues.{wanted, before}

-- the place of the oldest element that RETRIEVE with criterion c takes among the places from..to, and `to` where none fits
unfoldable pub place_in : ℕ → ℕ → ℕ → List ℕ → ℕ
place_in from to c store =
    cond (leb from to && leb to store_size) (from + before (wanted c (slice from to store)) (slice from to store)) to

-- a place before the end; at the end there is none
abbrev pub unless_end : ℕ → ℕ → Option ℕ
unless_end to place = cond (ltb place to) (Some place) None
