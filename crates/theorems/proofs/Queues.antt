-- A list that fits laid down as one queue leaves every queue right; what SEND and RETRIEVE lay down fits.
use Prim.Native.Nat.{ℕ, suc, ◌<◌, ◌≤◌}
use mathlib.Core.Path.{◌≡◌, refl}
use mathlib.Core.Logic.{◌≢◌}
use mathlib.Core.Bool.{Bool, true, false, ◌&&◌}
use mathlib.Core.List.{List, [], ◌∷◌, ◌++◌, map}
use native.Mathlib.Omega.{arith}
use lib.Dec.{eqb, leb}
use lib.ListN.{get_or, set, take, drop, length, length-set, length-map, length-append, length-take, length-drop}
use lib.Seq.{get_or-set_same, get_or-set_other}
use borrow.Author.Tests.{eqb-true, eqb-false, lt-ltb, le-leb, leb-true}
use Rattle.rules.specs.declared.Table.{Table}
use Rattle.rules.specs.Numbers.{queue_room, places}
use Rattle.rules.specs.Words.{is_zero, every}
use Rattle.rules.specs.Queues.{Pair, pair, elements, criteria, first_place, front, behind, laid, without}
use Rattle.rules.specs.Tables.{bound_of, length_of, queue_of, with_queue, settled}
use Rattle.rules.specs.Validity.{shaped, bound_in_range, criterion_in_range, criteria_in_range}
use Rattle.rules.proofs.Bools.{and_left, and_right, both}
use Rattle.rules.proofs.Counts.{below_at, below_all}
use Rattle.rules.proofs.Lists.{every_append, every_take, every_drop, every_cons, every_nil, map_append, map_without}
use Rattle.rules.proofs.Store.{slice_is, every_laid, laid_length, behind_laid_same, behind_laid_other}
use Rattle.rules.proofs.Queues.{queue_length, queue_criteria}
use Rattle.rules.specs.Checks.{bound_fits, queue_right, queues_right}
use Rattle.rules.proofs.Rules.{Parts, counts_fit}
use Rattle.rules.proofs.ValidQueues.{sound, used, bound_below}

module _ (t : Table) (p : Parts t) (q : ℕ) (l : q < t.queues) where
  room : q < queue_room
  room = omega (arith, (counts_fit _ _ _ p.counts).2)

  -- ---- the table with queue q changed

  module _ (queue : List Pair) (short : length queue ≤ bound_of t q) (small : every criterion_in_range (criteria queue) ≡ true) where
    fits : (f : Pair → ℕ) → length (map f queue) ≤ places
    fits f = rw length-map (omega (arith, bound_below t p q l room))

    queues_kept : queues_right t.queues t.bound (set t.length q (length queue)) (laid q (elements queue) t.element) (laid q (criteria queue) t.criterion) ≡ true
    unfolding queues_right queue_right bound_fits
    queues_kept = below_all _ queue_room (λ j k. go j k (eqb j q) refl)
      where
        es : length (elements queue) ≡ length queue
        es = length-map queue (λ x. x.element)

        cs : length (criteria queue) ≡ length queue
        cs = length-map queue (λ x. x.criterion)

        go : (j : ℕ) → j < queue_room → (b : Bool) → eqb j q ≡ b
            → queue_right t.queues j (bound_of t j) (get_or (set t.length q (length queue)) j 0) (laid q (elements queue) t.element) (laid q (criteria queue) t.criterion) ≡ true
        go j k true e =
            let s = sound t p q room in
            rw (eqb-true j q e, get_or-set_same t.length q (length queue) 0 s.room.counted, lt-ltb q t.queues l)
            (both {a = bound_in_range (bound_of t q) && leb (length queue) (bound_of t q)}
            (both {a = bound_in_range (bound_of t q)} (and_left _ _ (used t p q l room)) (le-leb (length queue) (bound_of t q) short))
            (both {a = every is_zero (behind q (length queue) (laid q (elements queue) t.element))}
            (rw es at (behind_laid_same q (elements queue) t.element (fits (λ x. x.element)) s.room.element))
            (rw cs at (behind_laid_same q (criteria queue) t.criterion (fits (λ x. x.criterion)) s.room.criterion))))
        go j k false e =
            let n : j ≢ q = eqb-false j q e in
            let s = sound t p q room in
            rw (
              get_or-set_other t.length q j (length queue) 0 n,
              behind_laid_other q (elements queue) t.element (fits (λ x. x.element)) s.room.element j n (length_of t j),
              behind_laid_other q (criteria queue) t.criterion (fits (λ x. x.criterion)) s.room.criterion j n (length_of t j),
            )
            (below_at _ queue_room j p.queues k)

    keep_queue : Parts (settled (with_queue q queue t))
    unfolding shaped criteria_in_range
    keep_queue =
        let s = sound t p q room in
        record {
          shape =
              rw (
                length-set t.length q (length queue),
                laid_length q (elements queue) t.element (fits (λ x. x.element)) s.room.element,
                laid_length q (criteria queue) t.criterion (fits (λ x. x.criterion)) s.room.criterion,
              )
              p.shape;
          counts = p.counts;
          tasks = p.tasks;
          regions = p.regions;
          entries = p.entries;
          holder = p.holder;
          open_holders = p.open_holders;
          awaits = p.awaits;
          no_circle = p.no_circle;
          queues = queues_kept;
          criteria = every_laid criterion_in_range q (criteria queue) t.criterion refl p.criteria small;
          elected = refl;
          timers = p.timers;
        }

  -- ---- SEND and RETRIEVE

  queue_small : every criterion_in_range (criteria (queue_of t q)) ≡ true
  unfolding front criteria_in_range
  queue_small =
      rw (queue_criteria t q (sound t p q room), slice_is)
      (every_take criterion_in_range (length_of t q) (drop (first_place q) t.criterion) (every_drop criterion_in_range (first_place q) t.criterion p.criteria))

  pub keep_send : (e c : ℕ) → length (queue_of t q) < bound_of t q → criterion_in_range c ≡ true
      → Parts (settled (with_queue q (queue_of t q ++ (pair e c ∷ [])) t))
  keep_send e c free small =
      keep_queue (queue_of t q ++ (pair e c ∷ [])) (rw length-append (omega arith))
      (rw map_append (every_append criterion_in_range (criteria (queue_of t q)) (c ∷ []) queue_small (every_cons criterion_in_range c [] small (every_nil criterion_in_range))))

  pub keep_retrieve : (i : ℕ) → length (queue_of t q) ≤ bound_of t q → Parts (settled (with_queue q (without i (queue_of t q)) t))
  unfolding without
  keep_retrieve i short =
      keep_queue (without i (queue_of t q)) (simp (length-append, length-take, length-drop) (omega arith))
      (rw map_without
      (every_append criterion_in_range (take i (criteria (queue_of t q))) (drop (suc i) (criteria (queue_of t q)))
      (every_take criterion_in_range i _ queue_small)
      (every_drop criterion_in_range (suc i) _ queue_small)))

  pub queue_short : length (queue_of t q) ≤ bound_of t q
  queue_short =
      rw (queue_length t q (sound t p q room))
      (leb-true (length_of t q) (bound_of t q) (and_right (bound_in_range (bound_of t q)) _ (used t p q l room)))
