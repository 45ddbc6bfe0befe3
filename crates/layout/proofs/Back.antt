-- A block of the right size whose unused bytes are 0, unpacked and packed again, is what it was.
use Rattle.std.proofs.Common.{ℕ, suc, ◌+◌, ◌*◌, ◌<◌, ◌≤◌, ◌≡◌, ◌∙◌, true, List, [], ◌∷◌, arith, get_or, length, take, drop, length-drop, get_or-drop, take_all, eqb-true, lt-ltb}
use Rattle.rules.specs.Numbers.{task_room, region_room, queue_room, store_size, timer_room}
use Rattle.rules.specs.Words.{every}
use Rattle.rules.proofs.Lists.{every_drop, every_cons, every_nil}
use Rattle.rules.proofs.Counts.{below_at}
use Rattle.packing.specs.Bytes.{values_in, half_width, word_width, bytes, spread}
use Rattle.packing.specs.Timers.{timer_width, unused_place}
use Rattle.packing.proofs.RoundTrips.{is_byte, spread_numbers, bytes_front, take_next, byte_at, timers_written}
use Rattle.layout.specs.Layout.{priority_place, state_place, arrived_place, list_place, operator_place, awaits_place, holder_place, entries_place, opened_place, bound_place, length_place, element_place, criterion_place, ticks_place, timers_place, block_size, part, unpacked, packed, unused_zero}

-- a list of which every entry is a byte
pub all_bytes : (bs : List ℕ) → ((i : ℕ) → get_or bs i 0 < 256) → every is_byte bs ≡ true
all_bytes [] h = every_nil is_byte
all_bytes (b ∷ bs) h = every_cons is_byte b bs (lt-ltb b 256 (h 0)) (all_bytes bs (λ i. h (suc i)))

module _ (block : List ℕ) (small : every is_byte block ≡ true) (size : length block ≡ block_size) where
  byte : (i : ℕ) → i < block_size → bytes 1 (get_or block i 0) ≡ take 1 (drop i block)
  byte i k = byte_at i block small (rw size k)

  pub column : (place width count : ℕ) → place + width * count ≤ block_size → spread width (part place width count block) ≡ take (width * count) (drop place block)
  column place width count l =
      spread_numbers width count (drop place block) (every_drop is_byte place block small) (rw (length-drop, size) (omega arith))

  ticks_written : bytes word_width (get_or (part ticks_place word_width 1 block) 0 0) ≡ take word_width (drop ticks_place block)
  unfolding values_in
  ticks_written = bytes_front word_width (drop ticks_place block) (every_drop is_byte ticks_place block small) (rw (length-drop, size) (omega arith))

  unused_at : unused_zero block ≡ true → (i : ℕ) → i < timer_room → get_or (drop timers_place block) (timer_width * i + unused_place) 0 ≡ 0
  unfolding unused_zero
  unused_at h i k =
      let place : timers_place + (timer_width * i + unused_place) ≡ timers_place + timer_width * i + unused_place = omega arith in
      rw (get_or-drop, place) (eqb-true _ 0 (below_at _ timer_room i h k))

  pub bytes_back : unused_zero block ≡ true → packed (unpacked block) ≡ block
  unfolding packed unpacked
  bytes_back zeros =
      take_next timers_place (timer_width * timer_room) block _ _
      (take_next ticks_place word_width block _ _
      (take_next criterion_place store_size block _ _
      (take_next element_place (word_width * store_size) block _ _
      (take_next length_place queue_room block _ _
      (take_next bound_place queue_room block _ _
      (take_next opened_place region_room block _ _
      (take_next entries_place region_room block _ _
      (take_next holder_place region_room block _ _
      (take_next awaits_place task_room block _ _
      (take_next operator_place task_room block _ _
      (take_next list_place (half_width * task_room) block _ _
      (take_next arrived_place (half_width * task_room) block _ _
      (take_next state_place task_room block _ _
      (take_next priority_place task_room block _ _
      (take_next 3 1 block _ _
      (take_next 2 1 block _ _ (take_next 1 1 block _ _ (byte 0 (omega arith)) (byte 1 (omega arith))) (byte 2 (omega arith)))
      (byte 3 (omega arith)))
      (column priority_place 1 task_room (omega arith)))
      (column state_place 1 task_room (omega arith)))
      (column arrived_place half_width task_room (omega arith)))
      (column list_place half_width task_room (omega arith)))
      (column operator_place 1 task_room (omega arith)))
      (column awaits_place 1 task_room (omega arith)))
      (column holder_place 1 region_room (omega arith)))
      (column entries_place 1 region_room (omega arith)))
      (column opened_place 1 region_room (omega arith)))
      (column bound_place 1 queue_room (omega arith)))
      (column length_place 1 queue_room (omega arith)))
      (column element_place word_width store_size (omega arith)))
      (column criterion_place 1 store_size (omega arith)))
      ticks_written)
      (timers_written timer_room (drop timers_place block) (every_drop is_byte timers_place block small) (rw (length-drop, size) (omega arith)) (unused_at zeros))
      ∙ take_all block_size block (rw size (omega arith))
