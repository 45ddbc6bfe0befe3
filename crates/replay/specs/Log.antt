-- A log of calls on a table, one after the other, each answer in its place.
use Rattle.std.specs.Prelude.{ℕ, zero, suc, ◌+◌, ◌*◌, ◌/◌, ◌%◌, min, List, get_or, length, set}
use Rattle.rules.specs.declared.Table.{Table}
use Rattle.rules.specs.declared.Call.{Call}
use Rattle.rules.specs.Step.{step}
use Rattle.packing.specs.Answers.{answer_number}

-- call i of a log, five numbers each; caller and operation have one byte
abbrev pub call_at : List ℕ → ℕ → Call
call_at log i =
    record {
      caller = get_or log (5 * i) 0 % 256;
      operation = get_or log (5 * i + 1) 0 % 256;
      a = get_or log (5 * i + 2) 0;
      b = get_or log (5 * i + 3) 0;
      c = get_or log (5 * i + 4) 0;
    }

-- the table after some calls, and their answers over what stood there
pub record Replayed : Type 0 where
  pub table : Table
  pub answers : List ℕ

-- call i more
abbrev pub once : Replayed → Call → ℕ → Replayed
once r c i = record { table = (step r.table c).table; answers = set r.answers i (answer_number (step r.table c).answer) }

-- the first n calls
unfoldable pub replayed : Table → List ℕ → List ℕ → ℕ → Replayed
replayed t log old zero = record { table = t; answers = old }
replayed t log old (suc n) = once (replayed t log old n) (call_at log n) n

-- as many calls as the log has and there is room for answers
abbrev pub laps : List ℕ → List ℕ → ℕ
laps log answers = min (length log / 5) (length answers)

abbrev pub logged : Table → List ℕ → List ℕ → Replayed
logged t log answers = replayed t log answers (laps log answers)
