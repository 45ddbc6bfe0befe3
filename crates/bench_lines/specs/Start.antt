-- How a session begins: where it stands before the first line, and what a refused first line does.
use Rattle.std.specs.Prelude.{ℕ, Bool, false, Result, Ok, Err}
use Rattle.rules.specs.declared.Table.{Table}
use Rattle.rules.specs.declared.Done.{Done}
use Rattle.rules.specs.declared.Refusal.{Refusal}
use Rattle.rules.specs.Numbers.{nobody}
use Rattle.rules.specs.Statuses.{number_of}
use Rattle.rules.specs.Fresh.{zero_table}
use Rattle.bench_lines.specs.declared.start.Standing.{Standing}

abbrev pub standing : Table → Bool → Standing
standing t begun = record { table = t; begun = begun }

-- before the first line
abbrev pub start : Standing
start = standing zero_table false

-- "After a refused first line there is a table of zeros"
unfoldable pub first_refused : ℕ → Done
first_refused status = record { table = zero_table; answer = record { status = status; value = 0; key = 0; elected = nobody; displaced = nobody } }

-- what a first line does that is read as this: what it configures, or why it is refused
abbrev pub done_or_refused : Result Done Refusal → Done
done_or_refused (Ok d) = d
done_or_refused (Err reason) = first_refused (number_of reason)
