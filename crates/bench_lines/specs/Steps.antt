-- What one line does: the table after it, and its answer.
use Rattle.std.specs.Prelude.{ℕ, cond, ◌&&◌, List, eqb, length, Option, Some, None}
use Rattle.rules.specs.declared.Table.{Table}
use Rattle.rules.specs.declared.Answer.{Answer}
use Rattle.rules.specs.declared.Call.{Call}
use Rattle.rules.specs.declared.Done.{Done}
use Rattle.rules.specs.Numbers.{nobody}
use Rattle.rules.specs.Words.{is_zero}
use Rattle.rules.specs.Step.{step}
use Rattle.frames.specs.Calls.{call_length, call_in}
use Rattle.bench_lines.specs.declared.start.Standing.{Standing}
use Rattle.bench_lines.specs.Start.{first_refused}
use Rattle.bench_lines.specs.First.{plain, first_done}

-- ---- a call line

-- "a malformed line reports the stored elected task, or 255 with the zero table", which is the one with no task
unfoldable pub malformed_answer : ℕ → ℕ → Answer
malformed_answer tasks elected =
    record { status = 21; value = 0; key = 0; elected = cond (is_zero tasks) nobody elected; displaced = nobody }

unfoldable pub malformed : Table → Done
malformed t = record { table = t; answer = malformed_answer t.tasks t.elected }

-- "gets 21 and no effect; so does a call line of another length"
unfoldable pub call_line : Table → List ℕ → Done
call_line t line = cond (plain line && eqb (length line) call_length) (step t (call_in line)) (malformed t)

-- ---- any line, where `begun` says that it isn't the first

-- a line of over 192 bytes, whatever they are
unfoldable pub too_long : Standing → Done
too_long s = cond s.begun (malformed s.table) (first_refused 21)

unfoldable pub line_done : Standing → List ℕ → Done
line_done s line = cond s.begun (call_line s.table line) (first_done line)

-- ---- the same in two steps: what a line asks for, and what that does

unfoldable pub request_in : List ℕ → Option Call
request_in line = cond (plain line && eqb (length line) call_length) (Some (call_in line)) None

unfoldable pub request_done : Table → Option Call → Done
request_done t (Some call) = step t call
request_done t None = malformed t
