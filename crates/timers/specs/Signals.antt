-- A tick's signals over the task columns, for every list of timers: a task past the columns isn't there, and an event's number is taken
-- modulo their end. In a valid table neither happens, and this is what the rules say (`ringing`).
use Rattle.std.specs.Prelude.{ℕ, ◌%◌, cond, ◌&&◌, List, [], ◌∷◌, map, nat_lt, slice_index, slice_set}
use Rattle.rules.specs.declared.Task.{Task}
use Rattle.rules.specs.declared.Timer.{Timer}
use Rattle.rules.specs.declared.Table.{Table}
use Rattle.rules.specs.Numbers.{task_room, event_end}
use Rattle.rules.specs.Tasks.{signalled}
use Rattle.rules.specs.Tables.{with_columns}
use Rattle.rules.specs.Timers.{later, is_due, rung}
use Rattle.tables.specs.declared.front.Front.{Front}

-- the columns that a signal may change
pub record Rows : Type 0 where
  pub state : List ℕ
  pub arrived : List ℕ
  pub list : List ℕ
  pub operator : List ℕ

-- what the columns say of task i, and the columns where they say this of it
abbrev pub row_of : Rows → ℕ → Task
row_of rows i =
    record {
      state = slice_index rows.state i;
      arrived = slice_index rows.arrived i;
      list = slice_index rows.list i;
      operator = slice_index rows.operator i;
    }

abbrev pub with_row : ℕ → Task → Rows → Rows
with_row i r rows =
    record {
      state = slice_set rows.state i r.state;
      arrived = slice_set rows.arrived i r.arrived;
      list = slice_set rows.list i r.list;
      operator = slice_set rows.operator i r.operator;
    }

unfoldable pub signalled_at : ℕ → ℕ → Rows → Rows
signalled_at i event rows = with_row i (signalled (event % event_end) (row_of rows i)) rows

-- one timer, and all of them in their order
unfoldable pub rung_row : ℕ → Timer → Rows → Rows
rung_row ticks r rows = cond (is_due ticks r && nat_lt r.owner task_room) (signalled_at r.owner r.event rows) rows

unfoldable pub rung_rows : ℕ → List Timer → Rows → Rows
rung_rows ticks [] rows = rows
rung_rows ticks (r ∷ rs) rows = rung_rows ticks rs (rung_row ticks r rows)

-- the columns of a table, and the table with these columns
abbrev pub rows_of : Table → Rows
rows_of t = record { state = t.state; arrived = t.arrived; list = t.list; operator = t.operator }

abbrev pub with_rows : Rows → Table → Table
with_rows rows t = with_columns rows.state rows.arrived rows.list rows.operator t

-- the same of a front
abbrev pub rows_in : Front → Rows
rows_in f = record { state = f.state; arrived = f.arrived; list = f.list; operator = f.operator }

abbrev pub front_with : Rows → Front → Front
front_with rows f = record f { state = rows.state; arrived = rows.arrived; list = rows.list; operator = rows.operator }

-- a front after one signal, after those of all timers that are due, and after a tick
abbrev pub front_signalled : ℕ → ℕ → Front → Front
front_signalled i event f = front_with (signalled_at i event (rows_in f)) f

abbrev pub front_rung : ℕ → List Timer → Front → Front
front_rung ticks timers f = front_with (rung_rows ticks timers (rows_in f)) f

abbrev pub front_ticked : Front → Front
front_ticked f =
    let now = later f.ticks 1 in
    record (front_rung now f.timers f) { ticks = now; timers = map (rung now) f.timers }
