-- "The first that applies is given, and none is given otherwise", of calls and of queries.
use Rattle.std.specs.Prelude.{ℕ, ◌≡◌, ◌≢◌, ◌↔◌, true, List, ◌∷◌, ◌++◌}
use Rattle.rules.specs.declared.Table.{Table}
use Rattle.rules.specs.declared.Call.{Call}
use Rattle.rules.specs.declared.Answer.{Answer}
use Rattle.rules.specs.Words.{Reason, None}
use Rattle.rules.specs.Answers.{refused}
use Rattle.rules.specs.Refusals.{reasons, refusal, arrived_reasons, object_reasons}
use Rattle.rules.specs.Queries.{arrived_query, empty_query, full_query, priority_query, state_query}
use Rattle.rules.specs.Step.{step}

-- ---- refused exactly when a listed reason holds, with the first such number

-- the list up to a reason that applies and has this status: none before it applies
pub record FirstIs (rs : List Reason) (status : ℕ) : Type 0 where
  pub before : List Reason
  pub reason : Reason
  pub after : List Reason
  pub split : rs ≡ before ++ (reason ∷ after)
  pub none : None before
  pub applies : reason.applies ≡ true
  pub says : reason.status ≡ status

abbrev pub RefusedExactly : Type 0
RefusedExactly = (t : Table) (c : Call) (status : ℕ) → status ≢ 0 → (refusal t c ≡ status) ↔ FirstIs (reasons t c) status

-- accepted exactly when none holds
abbrev pub AcceptedExactly : Type 0
AcceptedExactly = (t : Table) (c : Call) → (refusal t c ≡ 0) ↔ None (reasons t c)

-- and then the whole answer is the refusal
abbrev pub RefusedDone : Type 0
RefusedDone = (t : Table) (c : Call) → refusal t c ≢ 0 → step t c ≡ refused t (refusal t c)

-- the same of the queries: each by its list of reasons
abbrev Exactly : Answer → List Reason → Type 0
Exactly a rs = (status : ℕ) → status ≢ 0 → (a.status ≡ status) ↔ FirstIs rs status

pub record QueriesRefusedExactly : Type 0 where
  pub arrived : (t : Table) (caller list operator : ℕ)
      → Exactly (arrived_query t caller list operator) (arrived_reasons t caller list operator)
  pub empty : (t : Table) (queue : ℕ) → Exactly (empty_query t queue) (object_reasons t t.queues queue)
  pub full : (t : Table) (queue : ℕ) → Exactly (full_query t queue) (object_reasons t t.queues queue)
  pub priority : (t : Table) (task : ℕ) → Exactly (priority_query t task) (object_reasons t t.tasks task)
  pub state : (t : Table) (task : ℕ) → Exactly (state_query t task) (object_reasons t t.tasks task)
