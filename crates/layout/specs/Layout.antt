-- "a packed layout of one stated size, with unused bytes 0": where each part of the table stands in the block.
use Rattle.std.specs.Prelude.{ℕ, ◌+◌, ◌*◌, Bool, List, [], ◌∷◌, ◌++◌, eqb, get_or, length, drop}
use Rattle.rules.specs.declared.Table.{Table}
use Rattle.rules.specs.Numbers.{task_room, region_room, queue_room, store_size, timer_room}
use Rattle.rules.specs.Words.{is_zero, all, below}
use Rattle.rules.specs.Validity.{valid}
use Rattle.packing.specs.Bytes.{half_width, word_width, bytes, numbers, spread}
use Rattle.packing.specs.Timers.{timer_width, unused_place, timers_in, timers_bytes}

-- ---- the places: each part begins where the one before it ends

abbrev pub priority_place : ℕ
priority_place = 4

abbrev pub state_place : ℕ
state_place = priority_place + task_room

abbrev pub arrived_place : ℕ
arrived_place = state_place + task_room

abbrev pub list_place : ℕ
list_place = arrived_place + half_width * task_room

abbrev pub operator_place : ℕ
operator_place = list_place + half_width * task_room

abbrev pub awaits_place : ℕ
awaits_place = operator_place + task_room

abbrev pub holder_place : ℕ
holder_place = awaits_place + task_room

abbrev pub entries_place : ℕ
entries_place = holder_place + region_room

abbrev pub opened_place : ℕ
opened_place = entries_place + region_room

abbrev pub bound_place : ℕ
bound_place = opened_place + region_room

abbrev pub length_place : ℕ
length_place = bound_place + queue_room

abbrev pub element_place : ℕ
element_place = length_place + queue_room

abbrev pub criterion_place : ℕ
criterion_place = element_place + word_width * store_size

abbrev pub ticks_place : ℕ
ticks_place = criterion_place + store_size

abbrev pub timers_place : ℕ
timers_place = ticks_place + word_width

-- "one stated size": 3272 bytes
abbrev pub block_size : ℕ
block_size = timers_place + timer_width * timer_room

-- ---- the table in a block

-- as many numbers of `width` bytes each, from a place on
abbrev pub part : ℕ → ℕ → ℕ → List ℕ → List ℕ
part place width count block = numbers width count (drop place block)

unfoldable pub unpacked : List ℕ → Table
unpacked block =
    record {
      tasks = get_or block 0 0;
      regions = get_or block 1 0;
      queues = get_or block 2 0;
      elected = get_or block 3 0;
      priority = part priority_place 1 task_room block;
      state = part state_place 1 task_room block;
      arrived = part arrived_place half_width task_room block;
      list = part list_place half_width task_room block;
      operator = part operator_place 1 task_room block;
      awaits = part awaits_place 1 task_room block;
      holder = part holder_place 1 region_room block;
      entries = part entries_place 1 region_room block;
      opened = part opened_place 1 region_room block;
      bound = part bound_place 1 queue_room block;
      length = part length_place 1 queue_room block;
      element = part element_place word_width store_size block;
      criterion = part criterion_place 1 store_size block;
      ticks = get_or (part ticks_place word_width 1 block) 0 0;
      timers = timers_in timer_room (drop timers_place block);
    }

-- the block of a table: every table has one
unfoldable pub packed : Table → List ℕ
packed t =
    bytes 1 t.tasks
    ++ bytes 1 t.regions
    ++ bytes 1 t.queues
    ++ bytes 1 t.elected
    ++ spread 1 t.priority
    ++ spread 1 t.state
    ++ spread half_width t.arrived
    ++ spread half_width t.list
    ++ spread 1 t.operator
    ++ spread 1 t.awaits
    ++ spread 1 t.holder
    ++ spread 1 t.entries
    ++ spread 1 t.opened
    ++ spread 1 t.bound
    ++ spread 1 t.length
    ++ spread word_width t.element
    ++ spread 1 t.criterion
    ++ bytes word_width t.ticks
    ++ timers_bytes t.timers

-- "unused bytes 0": one in each timer
unfoldable pub unused_zero : List ℕ → Bool
unused_zero block = below timer_room (λ i. is_zero (get_or block (timers_place + timer_width * i + unused_place) 0))

-- "a block of wrong size or not a valid table" is not one of these
unfoldable pub is_table : List ℕ → Bool
is_table block = all (eqb (length block) block_size ∷ unused_zero block ∷ valid (unpacked block) ∷ [])
