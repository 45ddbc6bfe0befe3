-- Refused exactly when a listed reason holds, with the first such number: calls and queries.
use Prim.Native.Nat.{ℕ}
use mathlib.Core.Path.{◌≡◌, refl, sym, ap, ◌∙◌}
use mathlib.Core.Logic.{◌≢◌, ◌↔◌}
use mathlib.Core.Bool.{Bool, true, false}
use mathlib.Core.List.{List, [], ◌∷◌, ◌++◌}
use borrow.Author.Tests.{ne_eqb}
use Rattle.rules.specs.Words.{Reason, first, None}
use Rattle.rules.specs.Refusals.{reasons, refusal, arrived_reasons, object_reasons}
use Rattle.rules.specs.Queries.{arrived_query, empty_query, full_query, priority_query, state_query}
use Rattle.rules.specs.Step.{step}
use Rattle.rules.proofs.Refusals.{accepted_none}
use Rattle.theorems.specs.Refused.{FirstIs, RefusedExactly, AcceptedExactly, RefusedDone, QueriesRefusedExactly}

first_is : (rs : List Reason) (status : ℕ) → status ≢ 0 → first rs ≡ status → FirstIs rs status
first_is [] status n h = absurd (n (sym h))
first_is (r ∷ rs) status n h = go r.applies refl (first_is rs status n)
  where
    go : (b : Bool) → r.applies ≡ b → (first rs ≡ status → FirstIs rs status) → FirstIs (r ∷ rs) status
    go true e ih = record { before = []; reason = r; after = rs; split = refl; none = tt; applies = e; says = rw e at h }
    go false e ih =
        let f = ih (rw e at h) in
        record {
          before = r ∷ f.before;
          reason = f.reason;
          after = f.after;
          split = ap (λ l. r ∷ l) f.split;
          none = (e, f.none);
          applies = f.applies;
          says = f.says;
        }

passed : (rs ss : List Reason) → None rs → first (rs ++ ss) ≡ first ss
passed [] ss n = refl
passed (r ∷ rs) ss n = rw n.0 (passed rs ss n.1)

is_first : (rs : List Reason) (status : ℕ) → FirstIs rs status → first rs ≡ status
is_first rs status f = ap first f.split ∙ passed f.before _ f.none ∙ rw f.applies f.says

exactly : (rs : List Reason) (status : ℕ) → status ≢ 0 → (first rs ≡ status) ↔ FirstIs rs status
exactly rs status n = (first_is rs status n, is_first rs status)

pub refused_exactly : RefusedExactly
unfolding refusal
refused_exactly t c status n = exactly (reasons t c) status n

pub accepted_exactly : AcceptedExactly
accepted_exactly = accepted_none

pub refused_done : RefusedDone
unfolding step
refused_done t c n = rw (ne_eqb (refusal t c) 0 n)

pub queries_refused_exactly : QueriesRefusedExactly
unfolding arrived_query empty_query full_query priority_query state_query
queries_refused_exactly =
    record {
      arrived = λ t caller list operator. exactly (arrived_reasons t caller list operator);
      empty = λ t queue. exactly (object_reasons t t.queues queue);
      full = λ t queue. exactly (object_reasons t t.queues queue);
      priority = λ t task. exactly (object_reasons t t.tasks task);
      state = λ t task. exactly (object_reasons t t.tasks task);
    }
