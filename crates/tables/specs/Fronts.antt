-- A table as a front and a store: what a function speaks of to which the store is lent.
use Rattle.std.specs.Prelude.{ℕ, List, []}
use Rattle.rules.specs.declared.Table.{Table}
use Rattle.rules.specs.declared.Done.{Done}
use Rattle.tables.specs.declared.front.Front.{Front}
use Rattle.tables.specs.declared.front.Store.{Store}
use Rattle.tables.specs.declared.front.FrontDone.{FrontDone}

-- the table of a front and the places of its queues
abbrev pub whole : Front → List ℕ → List ℕ → Table
whole f element criterion =
    record {
      tasks = f.tasks;
      regions = f.regions;
      queues = f.queues;
      elected = f.elected;
      priority = f.priority;
      state = f.state;
      arrived = f.arrived;
      list = f.list;
      operator = f.operator;
      awaits = f.awaits;
      holder = f.holder;
      entries = f.entries;
      opened = f.opened;
      bound = f.bound;
      length = f.length;
      element = element;
      criterion = criterion;
      ticks = f.ticks;
      timers = f.timers;
    }

abbrev pub front_of : Table → Front
front_of t =
    record {
      tasks = t.tasks;
      regions = t.regions;
      queues = t.queues;
      elected = t.elected;
      priority = t.priority;
      state = t.state;
      arrived = t.arrived;
      list = t.list;
      operator = t.operator;
      awaits = t.awaits;
      holder = t.holder;
      entries = t.entries;
      opened = t.opened;
      bound = t.bound;
      length = t.length;
      ticks = t.ticks;
      timers = t.timers;
    }

abbrev pub store_of : Table → Store
store_of t = record { element = t.element; criterion = t.criterion }

abbrev pub front_done : Done → FrontDone
front_done d = record { front = front_of d.table; answer = d.answer }

-- the table of a front, where the places of the queues play no part
abbrev pub storeless : Front → Table
storeless f = whole f [] []

-- a table with the answer of an accepted call: "the elected task is the table's own, as it stands after the call"
abbrev pub answered : Table → ℕ → ℕ → ℕ → ℕ → Done
answered t status value key displaced =
    record { table = t; answer = record { status = status; value = value; key = key; elected = t.elected; displaced = displaced } }
