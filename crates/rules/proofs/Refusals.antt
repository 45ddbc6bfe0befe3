-- Laws of the refusals: their order, and what it means that none applies.
use Prim.Native.Nat.{ℕ}
use mathlib.Core.Path.{◌≡◌, refl}
use mathlib.Core.Logic.{◌↔◌}
use mathlib.Core.Bool.{Bool, true, false, cond, not, ◌&&◌}
use mathlib.Core.List.{List, [], ◌∷◌, ◌++◌, map}
use lib.Dec.{eqb, ltb, leb}
use lib.ListN.{length}
use borrow.Author.Tests.{eqb-false, not-true, not-false}
use Rattle.rules.specs.declared.Table.{Table}
use Rattle.rules.specs.declared.Call.{Call}
use Rattle.rules.specs.Words.{is_zero, every, Reason, first, None}
use Rattle.rules.specs.Numbers.{WAIT, ENTER, EXIT, SEND, RETRIEVE, TICK}
use Rattle.rules.specs.Regions.{held_by}
use Rattle.rules.specs.Queues.{none_fits}
use Rattle.rules.specs.Tables.{region_of, bound_of, queue_of}
use Rattle.rules.specs.Validity.{valid}
use Rattle.rules.specs.Refusals.{outside_barred, not_elected, tick_by_task, missing, bad_operator, wrong_state, inside, entries_full, closes_circle, stops_holder, reasons, arrived_reasons, object_reasons, refusal}
use Rattle.rules.proofs.Lists.{every_head, every_tail}

-- ---- the order of the status table

abbrev statuses : List Reason → List ℕ
statuses = map (λ r. r.status)

pub call_order : (t : Table) (c : Call) → statuses (reasons t c) ≡ 10 ∷ 11 ∷ 13 ∷ 12 ∷ 13 ∷ 14 ∷ 19 ∷ 15 ∷ 16 ∷ 17 ∷ 18 ∷ 22 ∷ 23 ∷ 24 ∷ 25 ∷ []
unfolding reasons
call_order t c = refl

pub arrived_order : (t : Table) (caller list operator : ℕ) → statuses (arrived_reasons t caller list operator) ≡ 10 ∷ 12 ∷ 14 ∷ 19 ∷ []
unfolding arrived_reasons
arrived_order t caller list operator = refl

pub object_order : (t : Table) (count i : ℕ) → statuses (object_reasons t count i) ≡ 10 ∷ 14 ∷ []
unfolding object_reasons
object_order t count i = refl

-- ---- none applies

-- no status of a list is 0
abbrev pub named : Reason → Bool
named r = not (is_zero r.status)

pub first_none : (rs : List Reason) → every named rs ≡ true → first rs ≡ 0 → None rs
first_none [] k h = tt
first_none (r ∷ rs) k h = go r.applies refl (first_none rs (every_tail named r rs k))
  where
    go : (b : Bool) → r.applies ≡ b → (first rs ≡ 0 → None rs) → None (r ∷ rs)
    go true e ih = absurd (eqb-false r.status 0 (not-true _ (every_head named r rs k)) (rw e at h))
    go false e ih = (e, ih (rw e at h))

none_first : (rs : List Reason) → None rs → first rs ≡ 0
none_first [] n = refl
none_first (r ∷ rs) n = rw n.0 (none_first rs n.1)

-- the first of two lists, one behind the other
pub first_append : (rs ss : List Reason) → every named rs ≡ true → first (rs ++ ss) ≡ cond (is_zero (first rs)) (first ss) (first rs)
first_append [] ss k = refl
first_append (r ∷ rs) ss k = go r.applies refl (first_append rs ss (every_tail named r rs k))
  where
    go : (b : Bool) → r.applies ≡ b → first (rs ++ ss) ≡ cond (is_zero (first rs)) (first ss) (first rs)
        → first ((r ∷ rs) ++ ss) ≡ cond (is_zero (first (r ∷ rs))) (first ss) (first (r ∷ rs))
    go true e ih = simp (e, not-true (is_zero r.status) (every_head named r rs k))
    go false e ih = simp e ih

-- a call is accepted exactly when no listed reason holds
pub accepted_none : (t : Table) (c : Call) → (refusal t c ≡ 0) ↔ None (reasons t c)
unfolding refusal reasons every
accepted_none t c = (first_none (reasons t c) refl, none_first (reasons t c))

-- ---- what an accepted call has passed

pub record Accepted (t : Table) (c : Call) : Type 0 where
  pub is_valid : valid t ≡ true
  pub known : ltb TICK c.operation ≡ false
  pub barred : outside_barred c ≡ false
  pub not_elected : not_elected t.elected c.caller ≡ false
  pub no_tick : tick_by_task c ≡ false
  pub nothing_missing : missing t.tasks t.regions t.queues c ≡ false
  pub operator_fits : (eqb c.operation WAIT && bad_operator c.b) ≡ false
  pub right_state : wrong_state t.state t.timers c ≡ false
  pub may_leave : inside t.opened t.holder c ≡ false
  pub not_full : (eqb c.operation SEND && leb (bound_of t c.a) (length (queue_of t c.a))) ≡ false
  pub fits : (eqb c.operation RETRIEVE && none_fits c.c (queue_of t c.a)) ≡ false
  pub may_enter : (eqb c.operation ENTER && entries_full (region_of t c.a) c.caller) ≡ false
  pub may_exit : (eqb c.operation EXIT && not (held_by c.caller (region_of t c.a))) ≡ false
  pub no_circle : closes_circle t.awaits t.holder c ≡ false
  pub may_stop : stops_holder t.opened t.holder c ≡ false

pub accepted_facts : (t : Table) (c : Call) → refusal t c ≡ 0 → Accepted t c
unfolding reasons
accepted_facts t c h =
    let (a, (b, (d, (e, (z, (f, (g, (i, (j, (k, (l, (m, (n, (o, (p, rest))))))))))))))) = (accepted_none t c).0 h in
    record {
      is_valid = not-false (valid t) a;
      known = b;
      barred = d;
      not_elected = e;
      no_tick = z;
      nothing_missing = f;
      operator_fits = g;
      right_state = i;
      may_leave = j;
      not_full = k;
      fits = l;
      may_enter = m;
      may_exit = n;
      no_circle = o;
      may_stop = p;
    }
