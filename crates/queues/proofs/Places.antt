-- What a part of the store means to a table: the place that RETRIEVE takes from is its queue's, and the gap closed is its queue without it.
use Rattle.std.proofs.Common.{ℕ, ◌+◌, ◌-◌, ◌<◌, ◌≤◌, ◌≡◌, ◌∙◌, refl, List, Bool, true, false, cond, ◌&&◌, Some, None, ltb, ltb-true, le-ltb, arith, leb, get_or, set, lt-ltb, le-leb, leb-true}
use Rattle.std.proofs.Math.Seq.{slice}
use Rattle.rules.specs.declared.Table.{Table}
use Rattle.rules.specs.Numbers.{queue_room, store_size}
use Rattle.queues.proofs.Found.{some_by}
use Rattle.rules.specs.Queues.{before, wanted, pair, no_pair, first_place, front, place, none_fits, without, closed}
use Rattle.rules.specs.Tables.{length_of, queue_of, with_queue, with_store}
use Rattle.rules.proofs.Bools.{and_right, same_test}
use Rattle.rules.proofs.Queues.{Sound, queue_length, queue_criteria, element_at, criterion_at, taken_stored}
use Rattle.queues.specs.Gaps.{closed_in}
use Rattle.queues.specs.Places.{place_in, unless_end}

leb_add : (a m n : ℕ) → leb m n ≡ leb (a + m) (a + n)
leb_add a m n =
    same_test (leb m n) (leb (a + m) (a + n))
    (λ h. le-leb (a + m) (a + n) (omega (arith, leb-true m n h)))
    (λ h. le-leb m n (omega (arith, leb-true (a + m) (a + n) h)))

-- the gap closed in a part that is there
pub closed_is : (at end : ℕ) (l : List ℕ) → at < end → end ≤ store_size → closed_in at end l ≡ closed at end l
unfolding closed_in
closed_is at end l h k = rw (lt-ltb at end h, le-leb end store_size k)

-- a place that is found lies in the part, and the part in the store
pub place_known : (from to c : ℕ) (l : List ℕ) {p : ℕ} → Some p ≡ unless_end to (place_in from to c l)
    → (p ≡ place_in from to c l) × ((p < to) × (to ≤ store_size))
unfolding place_in
place_known from to c l {p} = go (leb from to && leb to store_size) refl
  where
    at : ℕ
    at = from + before (wanted c (slice from to l)) (slice from to l)

    go : (b : Bool) → (leb from to && leb to store_size) ≡ b → Some p ≡ unless_end to (cond b at to)
        → (p ≡ cond b at to) × ((p < to) × (to ≤ store_size))
    go true b e =
        let it = some_by (ltb at to) at e in
        (it.1, (omega (arith, ltb-true at to it.0, it.1), leb-true to store_size (and_right (leb from to) (leb to store_size) b)))
    go false b e = absurd (let none : Some p ≡ None = rw (le-ltb to to (omega arith)) at e in cc)

pub place_within : (from to c : ℕ) (l : List ℕ) {p : ℕ} → Some p ≡ unless_end to (place_in from to c l) → p < store_size
place_within from to c l e = let it = place_known from to c l e in omega arith

-- ---- RETRIEVE with criterion k from queue q of a table, as the code does it

module _ (t : Table) (q : ℕ) (s : Sound t q) (there : q < queue_room) (k : ℕ) where
  fits : first_place q + length_of t q ≤ store_size
  fits = let short = s.short in omega arith

  pub place_is : place_in (first_place q) (first_place q + length_of t q) k t.criterion ≡ first_place q + place k (queue_of t q)
  unfolding place_in place front
  place_is =
      rw (
        le-leb (first_place q) (first_place q + length_of t q) (omega arith),
        le-leb (first_place q + length_of t q) store_size fits,
        queue_criteria t q s,
      )

  -- "no element fits": the place is the end
  pub none_is : none_fits k (queue_of t q)
      ≡ leb (first_place q + length_of t q) (place_in (first_place q) (first_place q + length_of t q) k t.criterion)
  none_is = rw (place_is, queue_length t q s) (leb_add (first_place q) (length_of t q) (place k (queue_of t q)))

  module _ (at : ℕ) (here : at ≡ place_in (first_place q) (first_place q + length_of t q) k t.criterion) (h : at < first_place q + length_of t q) where
    at_place : at ≡ first_place q + place k (queue_of t q)
    at_place = here ∙ place_is

    inside : place k (queue_of t q) < length_of t q
    inside = omega (arith, at_place)

    -- the pair that it gives
    pub given_is : get_or (queue_of t q) (place k (queue_of t q)) no_pair ≡ pair (get_or t.element at 0) (get_or t.criterion at 0)
    given_is =
        rw (at_place, ← element_at t q s (place k (queue_of t q)) inside, ← criterion_at t q s (place k (queue_of t q)) inside)

    -- the queue without it
    pub taken_is : with_queue q (without (place k (queue_of t q)) (queue_of t q)) t
        ≡ with_store (set t.length q (length_of t q - 1))
        (closed_in at (first_place q + length_of t q) t.element)
        (closed_in at (first_place q + length_of t q) t.criterion)
        t
    taken_is =
        rw (closed_is at (first_place q + length_of t q) t.element h fits, closed_is at (first_place q + length_of t q) t.criterion h fits, at_place)
        (taken_stored t q s (place k (queue_of t q)) inside)
