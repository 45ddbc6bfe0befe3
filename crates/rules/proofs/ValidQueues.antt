-- What validity says of one queue: its bound and length, and zeros behind what it holds.
use Prim.Native.Nat.{ℕ, ◌<◌, ◌≤◌}
use mathlib.Core.Path.{◌≡◌, refl}
use mathlib.Core.Bool.{Bool, true, false, cond, ◌&&◌}
use native.Mathlib.Omega.{arith}
use lib.Dec.{ltb, leb}
use lib.ListN.{length}
use borrow.Author.Tests.{eqb-true, ltb-true, ltb-false, leb-true, lt-ltb, le-ltb}
use Rattle.rules.specs.declared.Table.{Table}
use Rattle.rules.specs.Numbers.{queue_room, places, store_size}
use Rattle.rules.specs.Words.{is_zero, every}
use Rattle.rules.specs.Queues.{behind}
use Rattle.rules.specs.Tables.{length_of, bound_of}
use Rattle.rules.specs.Validity.{shaped, bound_in_range, bounds_in_range, zero_past, zero_past_counts, zero_past_lengths, lengths_right}
use Rattle.rules.specs.Checks.{bound_fits, queue_right, queues_right}
use Rattle.rules.proofs.Bools.{given, and_left, and_right, both}
use Rattle.rules.proofs.Counts.{below_at, below_all, within_at, past_at}
use Rattle.rules.proofs.Queues.{Sound}
use Rattle.rules.proofs.Rules.{Rules, Parts}

-- ---- the list's rules on queues, gathered

pub queues_gathered : (t : Table) → Rules t → queues_right t.queues t.bound t.length t.element t.criterion ≡ true
unfolding queues_right queue_right bound_fits bounds_in_range lengths_right zero_past zero_past_counts zero_past_lengths
queues_gathered t r = below_all _ queue_room (λ q k. both (go q k (ltb q t.queues) refl) (below_at _ queue_room q r.past_lengths k))
  where
    go : (q : ℕ) → q < queue_room → (b : Bool) → ltb q t.queues ≡ b
        → cond (ltb q t.queues) (bound_in_range (bound_of t q) && leb (length_of t q) (bound_of t q)) (is_zero (bound_of t q) && is_zero (length_of t q)) ≡ true
    go q k true e =
        let l = ltb-true q t.queues e in
        rw e (both (within_at _ _ _ q r.bounds l k) (within_at _ _ _ q r.lengths l k))
    go q k false e =
        let l = ltb-false q t.queues e in
        let past = (given _ r.past_counts).1.1.1.1.1.1.1 in
        rw e (both (past_at _ _ _ q past.0 l k) (past_at _ _ _ q past.1.0 l k))

-- ---- what they say of one queue

module _ (t : Table) (p : Parts t) where
  queue_fits : (q : ℕ) → q < queue_room → queue_right t.queues q (bound_of t q) (length_of t q) t.element t.criterion ≡ true
  unfolding queues_right
  queue_fits q k = below_at _ queue_room q p.queues k

  bound_fits_lem : (q : ℕ) → q < queue_room → bound_fits t.queues q (bound_of t q) (length_of t q) ≡ true
  unfolding queue_right
  bound_fits_lem q k = and_left _ _ (queue_fits q k)

  -- one below the count, and one past it
  pub used : (q : ℕ) → q < t.queues → q < queue_room → (bound_in_range (bound_of t q) && leb (length_of t q) (bound_of t q)) ≡ true
  unfolding bound_fits
  used q l k = simp (lt-ltb q t.queues l) at (bound_fits_lem q k)

  pub unused : (q : ℕ) → t.queues ≤ q → q < queue_room → (is_zero (bound_of t q) && is_zero (length_of t q)) ≡ true
  unfolding bound_fits
  unused q l k = simp (le-ltb q t.queues l) at (bound_fits_lem q k)

  pub bound_below : (q : ℕ) → q < t.queues → q < queue_room → bound_of t q ≤ places
  bound_below q l k = leb-true (bound_of t q) places (and_right (ltb 0 (bound_of t q)) _ (and_left _ _ (used q l k)))

  -- behind its elements the store is 0
  pub zeros_behind : (q : ℕ) → q < queue_room
      → (every is_zero (behind q (length_of t q) t.element) && every is_zero (behind q (length_of t q) t.criterion)) ≡ true
  unfolding queue_right
  zeros_behind q k = and_right (bound_fits t.queues q (bound_of t q) (length_of t q)) _ (queue_fits q k)

  -- what the laws of queues ask of one
  pub sound : (q : ℕ) → q < queue_room → Sound t q
  unfolding shaped
  sound q k =
      let (lengths, (elements, (criteria, rest))) = (given _ p.shape).1.1.1.1.1.1.1.1 in
      let long = eqb-true (length t.length) queue_room lengths in
      let store = eqb-true (length t.element) store_size elements in
      let same = eqb-true (length t.criterion) store_size criteria in
      record {
        room = omega arith;
        short = short (ltb q t.queues) refl;
        ez = and_left _ _ (zeros_behind q k);
        cz = and_right (every is_zero (behind q (length_of t q) t.element)) _ (zeros_behind q k);
      }
    where
      short : (b : Bool) → ltb q t.queues ≡ b → length_of t q ≤ places
      short true e =
          let l = ltb-true q t.queues e in
          omega (arith, bound_below q l k, leb-true (length_of t q) (bound_of t q) (and_right (bound_in_range (bound_of t q)) _ (used q l k)))
      short false e =
          omega (arith, eqb-true (length_of t q) 0 (and_right (is_zero (bound_of t q)) _ (unused q (ltb-false q t.queues e) k)))
