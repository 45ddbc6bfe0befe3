-- A timer in eight bytes: armed, owner, event, one byte that is not used, and the date.
use Rattle.std.specs.Prelude.{ℕ, cond, List, ◌++◌, get_or, length, take, drop, replicate}
use Rattle.rules.specs.declared.Timer.{Timer}
use Rattle.rules.specs.Numbers.{timer_room}
use Rattle.rules.specs.Timers.{idle}
use Rattle.packing.specs.Bytes.{word_width, number, bytes, values_in, values_bytes, values_taken, over, has_room}

abbrev pub timer_width : ℕ
timer_width = 8

-- the place of the byte that is not used
abbrev pub unused_place : ℕ
unused_place = 3

abbrev pub date_place : ℕ
date_place = 4

unfoldable pub timer_in : List ℕ → Timer
timer_in bs = record { armed = get_or bs 0 0; owner = get_or bs 1 0; event = get_or bs 2 0; date = number (take word_width (drop date_place bs)) }

unfoldable pub timer_bytes : Timer → List ℕ
timer_bytes r = bytes 1 r.armed ++ bytes 1 r.owner ++ bytes 1 r.event ++ bytes 1 0 ++ bytes word_width r.date

-- as many timers, from the front
abbrev pub timers_in : ℕ → List ℕ → List Timer
timers_in count bs = values_in timer_width timer_in count bs

abbrev pub timers_bytes : List Timer → List ℕ
timers_bytes rs = values_bytes timer_bytes rs

-- the table's timers from a place on; all idle where the block ends before
abbrev pub timers_taken : ℕ → List ℕ → List Timer
timers_taken at block = values_taken timer_width timer_in at block (replicate timer_room idle)

-- the block with the table's timers written from a place on; the block as it was where it ends before
unfoldable pub timers_put : ℕ → List Timer → List ℕ → List ℕ
timers_put at rs block = cond (has_room (length block) at timer_width timer_room) (over at (timers_bytes rs) block) block
