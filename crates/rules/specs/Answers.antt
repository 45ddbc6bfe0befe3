-- Answers: "a status, a value, a key and the elected task"; since T-08 the one displaced "as a last field".
use Rattle.std.specs.Prelude.{ℕ, cond, ◌||◌, eqb}
use Rattle.rules.specs.declared.Table.{Table}
use Rattle.rules.specs.declared.Answer.{Answer}
use Rattle.rules.specs.declared.Done.{Done}
use Rattle.rules.specs.Numbers.{nobody}
use Rattle.rules.specs.Words.{is_zero}

-- "The elected task is the table's own, as it stands after the call, but where the list says 255": at 10 and 20
abbrev pub reported : Table → ℕ → ℕ
reported t status = cond (eqb status 10 || eqb status 20) nobody t.elected

abbrev pub answer : Table → ℕ → ℕ → ℕ → ℕ → Answer
answer t status value key displaced =
    record { status = status; value = value; key = key; elected = reported t status; displaced = displaced }

abbrev pub done : Table → ℕ → ℕ → ℕ → ℕ → Done
done t status value key displaced = record { table = t; answer = answer t status value key displaced }

-- "Every refusal leaves the table as it came in"; value and key are 0; "a refusal gives 255"
abbrev pub refused : Table → ℕ → Done
refused t status = done t status 0 0 nobody

-- a query: "value is a query's reply", 0 where it is refused
abbrev pub replied : Table → ℕ → ℕ → Answer
replied t status value = answer t status (cond (is_zero status) value 0) 0 nobody
