-- Parts of a table, and the table with another part.
use Rattle.std.specs.Prelude.{ℕ, List, get_or, set, length}
use Rattle.rules.specs.declared.Task.{Task}
use Rattle.rules.specs.declared.Region.{Region}
use Rattle.rules.specs.declared.Timer.{Timer}
use Rattle.rules.specs.declared.Table.{Table}
use Rattle.rules.specs.declared.Elected.{Elected}
use Rattle.rules.specs.Queues.{Pair, pairs, elements, criteria, front, laid}
use Rattle.rules.specs.Timers.{idle}
use Rattle.rules.specs.Election.{election, elect}
use Rattle.rules.specs.Urgency.{closed_holders, states_with, urgencies, heir}

-- what the columns say of task i
abbrev pub task_of : Table → ℕ → Task
task_of t i =
    record {
      state = get_or t.state i 0;
      arrived = get_or t.arrived i 0;
      list = get_or t.list i 0;
      operator = get_or t.operator i 0;
    }

-- what they say of region i
abbrev pub region_of : Table → ℕ → Region
region_of t i = record { holder = get_or t.holder i 0; entries = get_or t.entries i 0 }

abbrev pub timer_of : Table → ℕ → Timer
timer_of t i = get_or t.timers i idle

abbrev pub length_of : Table → ℕ → ℕ
length_of t q = get_or t.length q 0

abbrev pub bound_of : Table → ℕ → ℕ
bound_of t q = get_or t.bound q 0

-- "a queue means the list of its (element, criterion) pairs in order of sending"
unfoldable pub queue_of : Table → ℕ → List Pair
queue_of t q = pairs (front q (length_of t q) t.element) (front q (length_of t q) t.criterion)

-- the table with these columns for its tasks
abbrev pub with_columns : List ℕ → List ℕ → List ℕ → List ℕ → Table → Table
with_columns state arrived list operator t =
    record {
      tasks = t.tasks;
      regions = t.regions;
      queues = t.queues;
      elected = t.elected;
      priority = t.priority;
      state = state;
      arrived = arrived;
      list = list;
      operator = operator;
      awaits = t.awaits;
      holder = t.holder;
      entries = t.entries;
      opened = t.opened;
      bound = t.bound;
      length = t.length;
      element = t.element;
      criterion = t.criterion;
      ticks = t.ticks;
      timers = t.timers;
    }

-- the table where the columns say this of task i
abbrev pub with_task : ℕ → Task → Table → Table
with_task i r t =
    with_columns (set t.state i r.state) (set t.arrived i r.arrived) (set t.list i r.list) (set t.operator i r.operator) t

-- the table where the columns say this of region i
abbrev pub with_region : ℕ → Region → Table → Table
with_region i r t =
    record {
      tasks = t.tasks;
      regions = t.regions;
      queues = t.queues;
      elected = t.elected;
      priority = t.priority;
      state = t.state;
      arrived = t.arrived;
      list = t.list;
      operator = t.operator;
      awaits = t.awaits;
      holder = set t.holder i r.holder;
      entries = set t.entries i r.entries;
      opened = t.opened;
      bound = t.bound;
      length = t.length;
      element = t.element;
      criterion = t.criterion;
      ticks = t.ticks;
      timers = t.timers;
    }

-- the table where task i waits for what this entry names: a region's number plus 1, or 0 for none
abbrev pub with_awaits : ℕ → ℕ → Table → Table
with_awaits i entry t =
    record {
      tasks = t.tasks;
      regions = t.regions;
      queues = t.queues;
      elected = t.elected;
      priority = t.priority;
      state = t.state;
      arrived = t.arrived;
      list = t.list;
      operator = t.operator;
      awaits = set t.awaits i entry;
      holder = t.holder;
      entries = t.entries;
      opened = t.opened;
      bound = t.bound;
      length = t.length;
      element = t.element;
      criterion = t.criterion;
      ticks = t.ticks;
      timers = t.timers;
    }

abbrev pub with_elected : ℕ → Table → Table
with_elected who t =
    record {
      tasks = t.tasks;
      regions = t.regions;
      queues = t.queues;
      elected = who;
      priority = t.priority;
      state = t.state;
      arrived = t.arrived;
      list = t.list;
      operator = t.operator;
      awaits = t.awaits;
      holder = t.holder;
      entries = t.entries;
      opened = t.opened;
      bound = t.bound;
      length = t.length;
      element = t.element;
      criterion = t.criterion;
      ticks = t.ticks;
      timers = t.timers;
    }

-- the table with these lengths and this store for its queues
abbrev pub with_store : List ℕ → List ℕ → List ℕ → Table → Table
with_store lengths element criterion t =
    record {
      tasks = t.tasks;
      regions = t.regions;
      queues = t.queues;
      elected = t.elected;
      priority = t.priority;
      state = t.state;
      arrived = t.arrived;
      list = t.list;
      operator = t.operator;
      awaits = t.awaits;
      holder = t.holder;
      entries = t.entries;
      opened = t.opened;
      bound = t.bound;
      length = lengths;
      element = element;
      criterion = criterion;
      ticks = t.ticks;
      timers = t.timers;
    }

-- the table where queue q means this list
abbrev pub with_queue : ℕ → List Pair → Table → Table
with_queue q queue t =
    with_store (set t.length q (length queue)) (laid q (elements queue) t.element) (laid q (criteria queue) t.criterion) t

-- the table with this counter and these timers
abbrev pub with_timers : ℕ → List Timer → Table → Table
with_timers ticks timers t =
    record {
      tasks = t.tasks;
      regions = t.regions;
      queues = t.queues;
      elected = t.elected;
      priority = t.priority;
      state = t.state;
      arrived = t.arrived;
      list = t.list;
      operator = t.operator;
      awaits = t.awaits;
      holder = t.holder;
      entries = t.entries;
      opened = t.opened;
      bound = t.bound;
      length = t.length;
      element = t.element;
      criterion = t.criterion;
      ticks = ticks;
      timers = timers;
    }

-- who gets region r next: "its most urgent waiting task"
abbrev pub heir_of : Table → ℕ → ℕ
heir_of t r = heir t.priority t.awaits t.opened t.holder r

-- task i changed by f
abbrev pub changed : ℕ → (Task → Task) → Table → Table
changed i f t = with_task i (f (task_of t i)) t

-- ---- the columns that the election reads

-- "STATE 3 means waiting for a region"
abbrev pub states_of : Table → List ℕ
states_of t = states_with t.awaits t.state

-- "Election uses that urgency" in the place of the priority
abbrev pub urgencies_of : Table → List ℕ
urgencies_of t = urgencies t.priority t.awaits t.opened t.holder

-- "The validity and election rules on holders now speak of closed regions only"
abbrev pub closed_of : Table → List ℕ
closed_of t = closed_holders t.opened t.holder

-- "the elected task is found afresh"
abbrev pub election_of : Table → ℕ
election_of t = election (states_of t) (urgencies_of t) (closed_of t)

-- the same with the one that it displaces, where `former` was elected before
abbrev pub elect_of : ℕ → Table → Elected
elect_of former t = elect former (states_of t) (urgencies_of t) (closed_of t)

abbrev pub settled : Table → Table
settled t = with_elected (election_of t) t
