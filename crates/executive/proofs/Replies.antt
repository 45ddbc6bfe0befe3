-- Where nothing is refused, a query's value is the rules': two values answer alike that agree there.
use Rattle.std.proofs.Common.{ℕ, ◌≡◌, refl, ◌∙◌, arith, Bool, true, false, length, get_or, ◌≤◌}
use lib.Dec.{eqb, ltb, leb}
use borrow.Author.Tests.{eqb-true, ltb-true, ltb-false, not-false}
use Rattle.rules.specs.declared.Table.{Table}
use Rattle.rules.specs.Words.{is_zero, every, first}
use Rattle.rules.specs.Answers.{replied}
use Rattle.rules.specs.Events.{met}
use Rattle.rules.specs.Tables.{length_of, bound_of, queue_of}
use Rattle.rules.specs.Validity.{valid}
use Rattle.rules.specs.Refusals.{object_reasons, arrived_reasons}
use Rattle.rules.specs.Queries.{one_if, empty_query, full_query, arrived_query}
use Rattle.rules.proofs.Bools.{or_right}
use Rattle.rules.proofs.Queues.{queue_length}
use Rattle.rules.proofs.Rules.{counts_fit}
use Rattle.rules.proofs.ValidQueues.{sound}
use Rattle.rules.proofs.Validity.{parts_of}
use Rattle.rules.proofs.Refusals.{first_none}

replied_same : (t : Table) (s v w : ℕ) → (s ≡ 0 → v ≡ w) → replied t s v ≡ replied t s w
replied_same t s v w h = go (is_zero s) refl
  where
    go : (b : Bool) → is_zero s ≡ b → replied t s v ≡ replied t s w
    go true e = rw (h (eqb-true s 0 e))
    go false e = rw e

-- a queue that a query is answered of has the length that is stored
long : (t : Table) (q : ℕ) → first (object_reasons t t.queues q) ≡ 0 → length (queue_of t q) ≡ length_of t q
unfolding object_reasons every
long t q z =
    let n = first_none (object_reasons t t.queues q) refl z in
    let p = parts_of t (not-false (valid t) n.0) in
    let c = counts_fit t.tasks t.regions t.queues p.counts in
    let k = ltb-true q t.queues (not-false (ltb q t.queues) n.1.0) in
    queue_length t q (sound t p q (omega arith))

pub empty_is : (t : Table) (q value : ℕ) → value ≡ one_if (eqb (length_of t q) 0)
    → replied t (first (object_reasons t t.queues q)) value ≡ empty_query t q
unfolding empty_query
empty_is t q value e = replied_same t _ value _ (λ z. e ∙ rw (long t q z))

pub full_is : (t : Table) (q value : ℕ) → value ≡ one_if (leb (bound_of t q) (length_of t q))
    → replied t (first (object_reasons t t.queues q)) value ≡ full_query t q
unfolding full_query
full_is t q value e = replied_same t _ value _ (λ z. e ∙ rw (long t q z))

-- list and operator of an ARRIVED that is answered have room in 16 and in 8 bits
pub arrived_is : (t : Table) (caller list operator value : ℕ) (m : Bool)
    → (list ≤ 65535 → operator ≤ 1 → m ≡ met operator list (get_or t.arrived caller 0)) → value ≡ one_if m
    → replied t (first (arrived_reasons t caller list operator)) value ≡ arrived_query t caller list operator
unfolding arrived_query arrived_reasons every
arrived_is t caller list operator value m h e =
    replied_same t _ value _ (λ z.
    let n = first_none (arrived_reasons t caller list operator) refl z in
    e ∙ rw (h (ltb-false 65535 list (or_right (is_zero list) _ n.1.1.0)) (ltb-false 1 operator n.1.1.1.0)))
