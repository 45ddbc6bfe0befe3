-- A fresh table from priorities, bounds and marks that already stand in their arrays.
use Rattle.std.specs.Prelude.{ℕ, List, [], ◌∷◌, replicate}
use Rattle.rules.specs.declared.Table.{Table}
use Rattle.rules.specs.Numbers.{task_room, region_room, queue_room, store_size, timer_room}
use Rattle.rules.specs.Words.{padded}
use Rattle.rules.specs.Tasks.{stopped, ready}
use Rattle.rules.specs.Timers.{idle}

abbrev pub fresh_by : ℕ → ℕ → ℕ → List ℕ → List ℕ → List ℕ → Table
fresh_by tasks regions queues priority bound opened =
    record {
      tasks = tasks;
      regions = regions;
      queues = queues;
      elected = 0;
      priority = priority;
      state = padded task_room stopped (ready ∷ []);
      arrived = replicate task_room 0;
      list = replicate task_room 0;
      operator = replicate task_room 0;
      awaits = replicate task_room 0;
      holder = replicate region_room 0;
      entries = replicate region_room 0;
      opened = opened;
      bound = bound;
      length = replicate queue_room 0;
      element = replicate store_size 0;
      criterion = replicate store_size 0;
      ticks = 0;
      timers = replicate timer_room idle;
    }
