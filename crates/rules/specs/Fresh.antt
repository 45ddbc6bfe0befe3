-- A fresh table: "from a configuration: counts, priorities, bounds"; since T-09 it "may mark regions as open".
use Rattle.std.specs.Prelude.{ℕ, Bool, cond, List, [], ◌∷◌, ltb, leb, length, take, replicate}
use Rattle.rules.specs.declared.Table.{Table}
use Rattle.rules.specs.declared.Done.{Done}
use Rattle.rules.specs.Numbers.{task_room, priority_end, region_room, queue_room, store_size, timer_room, nobody}
use Rattle.rules.specs.Words.{all, every, padded}
use Rattle.rules.specs.Tasks.{stopped, ready}
use Rattle.rules.specs.Timers.{idle}
use Rattle.rules.specs.Validity.{counts_in_range, bound_in_range, mark_in_range}
use Rattle.rules.specs.Answers.{done, refused}

-- the counts; "a list shorter than its count is out of range"; the priorities, bounds and marks. "Entries past a count aren't read."
unfoldable pub configuration_in_range : ℕ → ℕ → ℕ → List ℕ → List ℕ → List ℕ → Bool
configuration_in_range tasks regions queues priorities bounds marks =
    all (counts_in_range tasks regions queues
    ∷ leb tasks (length priorities)
    ∷ leb queues (length bounds)
    ∷ leb regions (length marks)
    ∷ every (λ p. ltb p priority_end) (take tasks priorities)
    ∷ every bound_in_range (take queues bounds)
    ∷ every mark_in_range (take regions marks)
    ∷ [])

-- "Task 0 is ready and elected, the others stopped, no event arrived, regions free, queues empty." "Fresh: counter 0, all idle."
unfoldable pub fresh_table : ℕ → ℕ → ℕ → List ℕ → List ℕ → List ℕ → Table
fresh_table tasks regions queues priorities bounds marks =
    record {
      tasks = tasks;
      regions = regions;
      queues = queues;
      elected = 0;
      priority = padded task_room 0 (take tasks priorities);
      state = padded task_room stopped (ready ∷ []);
      arrived = replicate task_room 0;
      list = replicate task_room 0;
      operator = replicate task_room 0;
      awaits = replicate task_room 0;
      holder = replicate region_room 0;
      entries = replicate region_room 0;
      opened = padded region_room 0 (take regions marks);
      bound = padded queue_room 0 (take queues bounds);
      length = replicate queue_room 0;
      element = replicate store_size 0;
      criterion = replicate store_size 0;
      ticks = 0;
      timers = replicate timer_room idle;
    }

-- "a table of zeros, which is not valid"
unfoldable pub zero_table : Table
zero_table =
    record {
      tasks = 0;
      regions = 0;
      queues = 0;
      elected = 0;
      priority = replicate task_room 0;
      state = replicate task_room 0;
      arrived = replicate task_room 0;
      list = replicate task_room 0;
      operator = replicate task_room 0;
      awaits = replicate task_room 0;
      holder = replicate region_room 0;
      entries = replicate region_room 0;
      opened = replicate region_room 0;
      bound = replicate queue_room 0;
      length = replicate queue_room 0;
      element = replicate store_size 0;
      criterion = replicate store_size 0;
      ticks = 0;
      timers = replicate timer_room idle;
    }

-- "A configuration out of range is refused with 20 and gives a table of zeros"
unfoldable pub fresh : ℕ → ℕ → ℕ → List ℕ → List ℕ → List ℕ → Done
fresh tasks regions queues priorities bounds marks =
    cond (configuration_in_range tasks regions queues priorities bounds marks)
    (done (fresh_table tasks regions queues priorities bounds marks) 0 0 0 nobody)
    (refused zero_table 20)
