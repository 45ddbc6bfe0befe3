-- The five queries: "Queries change nothing".
use Rattle.std.specs.Prelude.{ℕ, Bool, cond, leb, get_or, length}
use Rattle.rules.specs.declared.Table.{Table}
use Rattle.rules.specs.declared.Answer.{Answer}
use Rattle.rules.specs.Words.{is_zero, first}
use Rattle.rules.specs.Events.{met}
use Rattle.rules.specs.Election.{priority_at}
use Rattle.rules.specs.Urgency.{state_with}
use Rattle.rules.specs.Tables.{task_of, bound_of, queue_of}
use Rattle.rules.specs.Answers.{replied}
use Rattle.rules.specs.Refusals.{arrived_reasons, object_reasons}

abbrev pub one_if : Bool → ℕ
one_if b = cond b 1 0

-- "ARRIVED (caller, list, operator: 1 if the condition is met)"
unfoldable pub arrived_query : Table → ℕ → ℕ → ℕ → Answer
arrived_query t caller list operator =
    replied t (first (arrived_reasons t caller list operator)) (one_if (met operator list (task_of t caller).arrived))

-- "EMPTY, FULL (queue)"
unfoldable pub empty_query : Table → ℕ → Answer
empty_query t queue = replied t (first (object_reasons t t.queues queue)) (one_if (is_zero (length (queue_of t queue))))

unfoldable pub full_query : Table → ℕ → Answer
full_query t queue =
    replied t (first (object_reasons t t.queues queue)) (one_if (leb (bound_of t queue) (length (queue_of t queue))))

-- "PRIORITY, STATE (task: 0 stopped, 1 ready, 2 waiting)"; "STATE 3 means waiting for a region"
unfoldable pub priority_query : Table → ℕ → Answer
priority_query t task = replied t (first (object_reasons t t.tasks task)) (priority_at t.priority task)

unfoldable pub state_query : Table → ℕ → Answer
state_query t task = replied t (first (object_reasons t t.tasks task)) (state_with (get_or t.awaits task 0) (task_of t task).state)
