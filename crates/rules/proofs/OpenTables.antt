-- What T-09 says of tables, computed: which are valid, what STATE and PRIORITY answer, and which marks a configuration may have.
use Prim.Native.Nat.{ℕ, suc}
use mathlib.Core.Path.{◌≡◌, refl}
use mathlib.Core.Bool.{Bool, true}
use mathlib.Core.List.{List, [], ◌∷◌}
use Rattle.rules.specs.declared.Table.{Table}
use Rattle.rules.specs.Numbers.{outside, nobody, SIGNAL}
use Rattle.rules.specs.Words.{every}
use Rattle.rules.specs.Tasks.{as_started, as_waiting}
use Rattle.rules.specs.Regions.{handed}
use Rattle.rules.specs.Tables.{with_region, with_awaits, with_elected, changed, settled}
use Rattle.rules.specs.Fresh.{zero_table, fresh_table, fresh}
use Rattle.rules.specs.Refusals.{object_reasons}
use Rattle.rules.specs.Queries.{priority_query, state_query}
use Rattle.rules.specs.Step.{step}
use Rattle.rules.proofs.Quick.{computed}
use Rattle.rules.proofs.Rows.{says, Does, right_from, computing}
use Rattle.rules.proofs.OpenRows.{shared}

-- ---- "Validity gains: an open region's holder is ready or in state 3, no circle, a state 3 task waits for one occupied open region of another's, and
-- no free region is waited for."

-- a table, the elected task found for it, and what the next call hears
pub record Stored : Type 0 where
  pub table : Table
  pub status : ℕ
  pub elected : ℕ

abbrev fits : ℕ → Table → Stored
fits elected t = record { table = settled t; status = 0; elected = elected }

abbrev damaged : Table → Stored
damaged t = record { table = settled t; status = 10; elected = nobody }

pub right_stored : Does → Stored → Bool
right_stored does s = right_from does s.table (says outside SIGNAL 0 0 0 s.status s.elected ∷ []) []

-- the fresh table where tasks have been started, a region is held, a task waits for a region
abbrev started : ℕ → Table → Table
started i t = changed i as_started t

abbrev holds : ℕ → ℕ → Table → Table
holds task region t = with_region region (handed task) t

abbrev waits_for : ℕ → ℕ → Table → Table
waits_for task region t = with_awaits task (suc region) t

-- task 1 waits for what task 0 holds; and each way in which that would be wrong: the region is closed, free, its own, or not there; the task is
-- stopped, waits for an event, or is past the count
abbrev lines : List Stored
lines =
    fits 0 (waits_for 1 0 (holds 0 0 (started 1 shared.table)))
    ∷ damaged (waits_for 1 3 (holds 0 3 (started 1 shared.table)))
    ∷ damaged (waits_for 1 0 (started 1 shared.table))
    ∷ damaged (waits_for 1 0 (holds 1 0 (started 1 shared.table)))
    ∷ damaged (waits_for 1 4 (holds 0 0 (started 1 shared.table)))
    ∷ damaged (waits_for 1 0 (holds 0 0 shared.table))
    ∷ damaged (waits_for 1 0 (holds 0 0 (changed 1 (as_waiting 1 0) shared.table)))
    ∷ damaged (waits_for 4 0 (holds 0 0 shared.table))
    ∷ []

pub lines_row : every (right_stored step) lines ≡ true
unfolding computing shared right_stored
lines_row = computed (λ does. every (right_stored does) lines) refl

-- task 1 holds an open region: ready, and in state 3; but neither stopped nor waiting for an event. A closed region's holder is ready.
abbrev holders : List Stored
holders =
    fits 1 (holds 1 0 (started 1 shared.table))
    ∷ fits 0 (waits_for 1 1 (holds 0 1 (holds 1 0 (started 1 shared.table))))
    ∷ damaged (holds 1 0 shared.table)
    ∷ damaged (holds 1 0 (changed 1 (as_waiting 1 0) shared.table))
    ∷ damaged (waits_for 1 1 (holds 0 1 (holds 1 3 (started 1 shared.table))))
    ∷ []

pub holders_row : every (right_stored step) holders ≡ true
unfolding computing shared right_stored
holders_row = computed (λ does. every (right_stored does) holders) refl

-- a circle of two and of three beside task 0, which is elected; one link less is none
abbrev circles : List Stored
circles =
    fits 2 (waits_for 1 1 (holds 2 1 (holds 1 0 (started 2 (started 1 shared.table)))))
    ∷ damaged (waits_for 2 0 (waits_for 1 1 (holds 2 1 (holds 1 0 (started 2 (started 1 shared.table))))))
    ∷ damaged
    (waits_for 3 0 (waits_for 2 2 (waits_for 1 1 (holds 3 2 (holds 2 1 (holds 1 0 (started 3 (started 2 (started 1 shared.table)))))))))
    ∷ []

pub circles_row : every (right_stored step) circles ≡ true
unfolding computing shared right_stored
circles_row = computed (λ does. every (right_stored does) circles) refl

-- a mark of 2; and "The elected task is the right one": the holder of urgency 10, and not task 2 of priority 20
abbrev marked : List Stored
marked =
    damaged (fresh_table 4 4 0 (40 ∷ 10 ∷ 20 ∷ 30 ∷ []) [] (1 ∷ 2 ∷ 1 ∷ 0 ∷ []))
    ∷ fits 0 (started 2 (waits_for 1 0 (holds 0 0 (started 1 shared.table))))
    ∷ record {
      table = with_elected 2 (started 2 (waits_for 1 0 (holds 0 0 (started 1 shared.table))));
      status = 10;
      elected = nobody;
    }
    ∷ []

pub marked_row : every (right_stored step) marked ≡ true
unfolding computing shared right_stored
marked_row = computed (λ does. every (right_stored does) marked) refl

-- ---- "STATE 3 means waiting for a region"

-- what the queries say of the task that waits and of the holder: PRIORITY is the configured number, and not the urgency
pub answers_of : Table → List ℕ
answers_of t = (state_query t 0).value ∷ (state_query t 1).value ∷ (state_query t 2).value ∷ (priority_query t 0).value ∷ []

pub query_row : answers_of (waits_for 1 0 (holds 0 0 (started 1 shared.table))) ≡ 1 ∷ 3 ∷ 0 ∷ 40 ∷ []
unfolding computing shared answers_of state_query priority_query object_reasons
query_row = refl

-- ---- "The configuration line gains two digits a region, 00 closed or 01 open, else 20"; "a list shorter than its count is out of range", and
-- "entries past a count aren't read"

-- the statuses of configurations of one task and of regions with these marks
pub marks_taken : ℕ → List ℕ → ℕ
marks_taken regions marks = (fresh 1 regions 0 (5 ∷ []) [] marks).answer.status

pub mark_rows :
    marks_taken 2 (0 ∷ 1 ∷ []) ∷ marks_taken 2 (1 ∷ 2 ∷ []) ∷ marks_taken 2 (1 ∷ []) ∷ marks_taken 1 (1 ∷ 2 ∷ []) ∷ [] ≡ 0 ∷ 20 ∷ 20 ∷ 0 ∷ []
unfolding computing marks_taken zero_table
mark_rows = refl
