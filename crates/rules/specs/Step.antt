-- One call: refused, with the table as it came in, or accepted, with the elected task found afresh.
use Rattle.std.specs.Prelude.{ℕ, cond}
use Rattle.rules.specs.declared.Table.{Table}
use Rattle.rules.specs.declared.Call.{Call}
use Rattle.rules.specs.declared.Done.{Done}
use Rattle.rules.specs.Words.{is_zero}
use Rattle.rules.specs.Tables.{elect_of, settled}
use Rattle.rules.specs.Answers.{done, refused}
use Rattle.rules.specs.Refusals.{refusal}
use Rattle.rules.specs.Effects.{Effect, effect}

-- "After each accepted call the elected task is found afresh." "Value and key are the element and criterion of an accepted RETRIEVE".
-- `former` was elected before the call
abbrev pub accepted : ℕ → Effect → Done
accepted former e =
    done (settled e.table) e.status e.given.element e.given.criterion (elect_of former e.table).displaced

unfoldable pub step : Table → Call → Done
step t c = cond (is_zero (refusal t c)) (accepted t.elected (effect t c)) (refused t (refusal t c))
