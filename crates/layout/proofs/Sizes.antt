-- The lengths of a table's arrays.
use Rattle.std.proofs.Common.{ℕ, zero, suc, ◌≡◌, refl, sym, ap, ◌∙◌, List, map, length, drop}
use lib.ListN.{length-map}
use Rattle.rules.specs.declared.Table.{Table}
use Rattle.rules.specs.Numbers.{task_room, region_room, queue_room, store_size, timer_room}
use Rattle.packing.specs.Bytes.{values_in, half_width, word_width}
use Rattle.packing.specs.Timers.{timer_width, timers_in}
use Rattle.packing.proofs.RoundTrips.{numbers_length}
use Rattle.layout.specs.Layout.{priority_place, state_place, arrived_place, list_place, operator_place, awaits_place, holder_place, entries_place, opened_place, bound_place, length_place, element_place, criterion_place, timers_place, unpacked}

-- the lengths that the types of the table's arrays give
pub record Sized (t : Table) : Type 0 where
  pub priority_long : length t.priority ≡ task_room
  pub state_long : length t.state ≡ task_room
  pub arrived_long : length t.arrived ≡ task_room
  pub list_long : length t.list ≡ task_room
  pub operator_long : length t.operator ≡ task_room
  pub awaits_long : length t.awaits ≡ task_room
  pub holder_long : length t.holder ≡ region_room
  pub entries_long : length t.entries ≡ region_room
  pub opened_long : length t.opened ≡ region_room
  pub bound_long : length t.bound ≡ queue_room
  pub length_long : length t.length ≡ queue_room
  pub element_long : length t.element ≡ store_size
  pub criterion_long : length t.criterion ≡ store_size
  pub timers_long : length t.timers ≡ timer_room

-- a field that is an array of structs is known by what its structs stand for
pub length_mapped : (X Y : Type 0) (f : X → Y) (l : List X) (n : ℕ) → length (map f l) ≡ n → length l ≡ n
length_mapped X Y f l n e = sym (length-map l f) ∙ e

-- the arrays of a block's table have their lengths
timers_sized : (count : ℕ) (bs : List ℕ) → length (timers_in count bs) ≡ count
unfolding values_in
timers_sized zero bs = refl
timers_sized (suc count) bs = ap suc (timers_sized count (drop timer_width bs))

pub unpacked_sized : (block : List ℕ) → Sized (unpacked block)
unfolding unpacked
unpacked_sized block =
    record {
      priority_long = numbers_length 1 task_room (drop priority_place block);
      state_long = numbers_length 1 task_room (drop state_place block);
      arrived_long = numbers_length half_width task_room (drop arrived_place block);
      list_long = numbers_length half_width task_room (drop list_place block);
      operator_long = numbers_length 1 task_room (drop operator_place block);
      awaits_long = numbers_length 1 task_room (drop awaits_place block);
      holder_long = numbers_length 1 region_room (drop holder_place block);
      entries_long = numbers_length 1 region_room (drop entries_place block);
      opened_long = numbers_length 1 region_room (drop opened_place block);
      bound_long = numbers_length 1 queue_room (drop bound_place block);
      length_long = numbers_length 1 queue_room (drop length_place block);
      element_long = numbers_length word_width store_size (drop element_place block);
      criterion_long = numbers_length 1 store_size (drop criterion_place block);
      timers_long = timers_sized timer_room (drop timers_place block);
    }
