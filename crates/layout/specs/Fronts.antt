-- All of a table but the store, as it is read from a block of any size.
use Rattle.std.specs.Prelude.{List, ℕ, get_or, replicate}
use Rattle.rules.specs.Numbers.{task_room, region_room, queue_room}
use Rattle.tables.specs.declared.front.Front.{Front}
use Rattle.packing.specs.Bytes.{half_width, word_width, taken}
use Rattle.packing.specs.Timers.{timers_taken}
use Rattle.layout.specs.Layout.{priority_place, state_place, arrived_place, list_place, operator_place, awaits_place, holder_place, entries_place, opened_place, bound_place, length_place, ticks_place, timers_place}

-- all but the store, as it is read: a part that the block has no room for is all 0
unfoldable pub front_taken : List ℕ → Front
front_taken block =
    record {
      tasks = get_or block 0 0;
      regions = get_or block 1 0;
      queues = get_or block 2 0;
      elected = get_or block 3 0;
      priority = taken 1 priority_place block (replicate task_room 0);
      state = taken 1 state_place block (replicate task_room 0);
      arrived = taken half_width arrived_place block (replicate task_room 0);
      list = taken half_width list_place block (replicate task_room 0);
      operator = taken 1 operator_place block (replicate task_room 0);
      awaits = taken 1 awaits_place block (replicate task_room 0);
      holder = taken 1 holder_place block (replicate region_room 0);
      entries = taken 1 entries_place block (replicate region_room 0);
      opened = taken 1 opened_place block (replicate region_room 0);
      bound = taken 1 bound_place block (replicate queue_room 0);
      length = taken 1 length_place block (replicate queue_room 0);
      ticks = get_or (taken word_width ticks_place block (replicate 1 0)) 0 0;
      timers = timers_taken timers_place block;
    }
