-- Laws of a queue as a list: what its list is, what a list laid down reads as, and what SEND and RETRIEVE make of it.
use Prim.Native.Nat.{ℕ, suc, ◌+◌, ◌-◌, ◌<◌, ◌≤◌}
use mathlib.Core.Path.{◌≡◌, refl, sym, ap, ◌∙◌}
use mathlib.Core.Logic.{◌≢◌}
use mathlib.Core.Bool.{true}
use mathlib.Core.List.{List, [], ◌∷◌, ◌++◌, map}
use native.Mathlib.Omega.{arith}
use lib.ListN.{get_or, set, length, length-append, length-map, get_or-map}
use lib.Seq.{get_or-set_same, get_or-set_other}
use Rattle.rules.specs.declared.Table.{Table}
use Rattle.rules.specs.Numbers.{places}
use Rattle.rules.specs.Words.{is_zero, every}
use Rattle.rules.specs.Queues.{Pair, pair, no_pair, pairs, elements, criteria, first_place, front, behind, laid, without, closed}
use Rattle.rules.specs.Tables.{length_of, queue_of, with_store, with_queue}
use Rattle.rules.proofs.Lists.{length_without, map_append, map_without}
use Rattle.rules.proofs.Store.{front_at, front_length, front_laid_same, front_laid_other, store_send, store_take}

-- ---- pairs and their two sides

pub length_pairs : (es cs : List ℕ) → length es ≡ length cs → length (pairs es cs) ≡ length es
unfolding pairs
length_pairs [] cs h = refl
length_pairs (e ∷ es) [] h = sym h
length_pairs (e ∷ es) (c ∷ cs) h = ap suc (length_pairs es cs (omega arith))

pub elements_pairs : (es cs : List ℕ) → length es ≡ length cs → elements (pairs es cs) ≡ es
unfolding pairs
elements_pairs [] cs h = refl
elements_pairs (e ∷ es) [] h = absurd (omega arith)
elements_pairs (e ∷ es) (c ∷ cs) h = ap (λ r. e ∷ r) (elements_pairs es cs (omega arith))

pub criteria_pairs : (es cs : List ℕ) → length es ≡ length cs → criteria (pairs es cs) ≡ cs
unfolding pairs
criteria_pairs [] [] h = refl
criteria_pairs [] (c ∷ cs) h = absurd (omega arith)
criteria_pairs (e ∷ es) [] h = refl
criteria_pairs (e ∷ es) (c ∷ cs) h = ap (λ r. c ∷ r) (criteria_pairs es cs (omega arith))

pub pairs_sides : (ps : List Pair) → pairs (elements ps) (criteria ps) ≡ ps
unfolding pairs
pairs_sides [] = refl
pairs_sides (p ∷ ps) = ap (λ r. p ∷ r) (pairs_sides ps)

-- ---- a queue of a table

-- the arrays hold queue q: its length, and its places in both stores
pub record Room (t : Table) (q : ℕ) : Type 0 where
  pub counted : q < length t.length
  pub element : first_place q + places ≤ length t.element
  pub criterion : first_place q + places ≤ length t.criterion

-- what a valid table says of its queue q
pub record Sound (t : Table) (q : ℕ) : Type 0 where
  pub room : Room t q
  pub short : length_of t q ≤ places
  -- "Everything past .. a queue's length is 0."
  pub ez : every is_zero (behind q (length_of t q) t.element) ≡ true
  pub cz : every is_zero (behind q (length_of t q) t.criterion) ≡ true

-- one side of a list laid down
module _ (f : Pair → ℕ) (q : ℕ) (queue : List Pair) (l : List ℕ) (short : length queue ≤ places) (room : first_place q + places ≤ length l) where
  side_same : front q (length queue) (laid q (map f queue) l) ≡ map f queue
  side_same = rw (length-map queue f) at (front_laid_same q (map f queue) l (rw length-map short) room)

  side_other : (p n : ℕ) → p ≢ q → n ≤ places → front p n (laid q (map f queue) l) ≡ front p n l
  side_other p n other h = front_laid_other q (map f queue) l (rw length-map short) room p other n h

-- a list laid down as queue q is its list, and another queue keeps its own
module _ (t : Table) (q : ℕ) (room : Room t q) (queue : List Pair) (short : length queue ≤ places) where
  pub queue_same : queue_of (with_queue q queue t) q ≡ queue
  unfolding queue_of
  queue_same =
      simp (
        get_or-set_same t.length q (length queue) 0 room.counted,
        side_same (λ p. p.element) q queue t.element short room.element,
        side_same (λ p. p.criterion) q queue t.criterion short room.criterion,
        pairs_sides,
      )

  pub queue_other : (p : ℕ) → p ≢ q → length_of t p ≤ places → queue_of (with_queue q queue t) p ≡ queue_of t p
  unfolding queue_of
  queue_other p other h =
      simp (
        get_or-set_other t.length q p (length queue) 0 other,
        side_other (λ p. p.element) q queue t.element short room.element p (length_of t p) other h,
        side_other (λ p. p.criterion) q queue t.criterion short room.criterion p (length_of t p) other h,
      )

module _ (t : Table) (q : ℕ) (s : Sound t q) where
  element_length : length (front q (length_of t q) t.element) ≡ length_of t q
  element_length = front_length q (length_of t q) t.element s.short s.room.element

  same_length : length (front q (length_of t q) t.element) ≡ length (front q (length_of t q) t.criterion)
  same_length = element_length ∙ sym (front_length q (length_of t q) t.criterion s.short s.room.criterion)

  pub queue_length : length (queue_of t q) ≡ length_of t q
  unfolding queue_of
  queue_length = length_pairs _ _ same_length ∙ element_length

  pub queue_elements : elements (queue_of t q) ≡ front q (length_of t q) t.element
  unfolding queue_of
  queue_elements = elements_pairs _ _ same_length

  pub queue_criteria : criteria (queue_of t q) ≡ front q (length_of t q) t.criterion
  unfolding queue_of
  queue_criteria = criteria_pairs _ _ same_length

  pub element_at : (i : ℕ) → i < length_of t q → (get_or (queue_of t q) i no_pair).element ≡ get_or t.element (first_place q + i) 0
  element_at i h = rw (← get_or-map (λ p. p.element) (queue_of t q) i no_pair, queue_elements) (front_at q (length_of t q) t.element i h)

  pub criterion_at : (i : ℕ) → i < length_of t q → (get_or (queue_of t q) i no_pair).criterion ≡ get_or t.criterion (first_place q + i) 0
  criterion_at i h = rw (← get_or-map (λ p. p.criterion) (queue_of t q) i no_pair, queue_criteria) (front_at q (length_of t q) t.criterion i h)

  -- ---- SEND

  module _ (e c : ℕ) (free : length_of t q < places) where
    pub sent : queue_of (with_queue q (queue_of t q ++ (pair e c ∷ [])) t) q ≡ queue_of t q ++ (pair e c ∷ [])
    sent = queue_same t q s.room (queue_of t q ++ (pair e c ∷ [])) (rw (length-append, queue_length) (omega arith))

    pub sent_stored : with_queue q (queue_of t q ++ (pair e c ∷ [])) t
        ≡ with_store (set t.length q (length_of t q + 1))
        (set t.element (first_place q + length_of t q) e)
        (set t.criterion (first_place q + length_of t q) c)
        t
    sent_stored =
        simp (
          length-append,
          queue_length,
          map_append,
          queue_elements,
          queue_criteria,
          store_send q (length_of t q) t.element s.room.element s.ez e free,
          store_send q (length_of t q) t.criterion s.room.criterion s.cz c free,
        )

  -- ---- RETRIEVE

  module _ (i : ℕ) (h : i < length_of t q) where
    left : length (without i (queue_of t q)) ≡ length_of t q - 1
    left = simp queue_length at (length_without i (queue_of t q) (rw queue_length h))

    pub taken : queue_of (with_queue q (without i (queue_of t q)) t) q ≡ without i (queue_of t q)
    taken = queue_same t q s.room (without i (queue_of t q)) (rw left (omega arith))

    pub taken_stored : with_queue q (without i (queue_of t q)) t
        ≡ with_store (set t.length q (length_of t q - 1))
        (closed (first_place q + i) (first_place q + length_of t q) t.element)
        (closed (first_place q + i) (first_place q + length_of t q) t.criterion)
        t
    taken_stored =
        simp (
          left,
          map_without,
          queue_elements,
          queue_criteria,
          store_take q (length_of t q) t.element s.room.element s.ez i h s.short,
          store_take q (length_of t q) t.criterion s.room.criterion s.cz i h s.short,
        )
