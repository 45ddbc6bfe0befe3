-- A query's answer from its status, its value and the elected task.
use Rattle.std.specs.Prelude.{ℕ, cond, ◌||◌, eqb}
use Rattle.rules.specs.declared.Answer.{Answer}
use Rattle.rules.specs.Numbers.{nobody}

abbrev pub reply_by : ℕ → ℕ → ℕ → Answer
reply_by status value elected =
    record {
      status = status;
      value = cond (eqb status 0) value 0;
      key = 0;
      elected = cond (eqb status 10 || eqb status 20) nobody elected;
      displaced = nobody;
    }
