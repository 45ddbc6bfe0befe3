-- What stands in the queues stays in range: elements of 32 bits come in by SEND alone, and RETRIEVE gives one of them.
use Rattle.std.proofs.Common.{ℕ, ◌<◌, ◌≡◌, refl, Bool, true, false, cond, List, [], ◌∷◌, arith, ltb, ltb-true, lt-ltb}
use lib.ListN.{get_or-map}
use Rattle.rules.specs.declared.Table.{Table}
use Rattle.rules.specs.declared.Call.{Call}
use Rattle.rules.specs.Numbers.{criterion_end, SEND}
use Rattle.rules.specs.Words.{is_zero, every}
use Rattle.rules.specs.Events.{met}
use Rattle.rules.specs.Regions.{held_by_other}
use Rattle.rules.specs.Queues.{no_pair, pairs, elements, criteria, front, place, without}
use Rattle.rules.specs.Timers.{later}
use Rattle.rules.specs.Tables.{task_of, region_of, length_of, queue_of}
use Rattle.rules.specs.Validity.{valid, criterion_in_range, criteria_in_range}
use Rattle.rules.specs.Refusals.{refusal}
use Rattle.rules.specs.Effects.{Effect, wait, enter, hands_on, exit, send, retrieve, tick, ticked, effect}
use Rattle.rules.specs.Step.{step}
use Rattle.rules.proofs.Lists.{every_head, every_tail, every_cons, every_nil, every_append, every_take, every_drop, every_at, map_append, map_without}
use Rattle.rules.proofs.Store.{every_laid}
use Rattle.rules.proofs.Validity.{parts_of}
use Rattle.rules.proofs.Effects.{each_effect, either_effect, ringing_same}
use Rattle.block_theorems.specs.Ranges.{byte_end, word_end, elements_in_range}

-- ---- a queue's list

every_front : (p : ℕ → Bool) (q n : ℕ) (store : List ℕ) → every p store ≡ true → every p (front q n store) ≡ true
unfolding front
every_front p q n store h = search (every_drop, every_take)

every_elements : (p : ℕ → Bool) (es cs : List ℕ) → every p es ≡ true → every p (elements (pairs es cs)) ≡ true
unfolding pairs
every_elements p [] cs h = every_nil p
every_elements p (e ∷ es) [] h = every_nil p
every_elements p (e ∷ es) (c ∷ cs) h = every_cons p e (elements (pairs es cs)) (every_head p e es h) (every_elements p es cs (every_tail p e es h))

every_criteria : (p : ℕ → Bool) (es cs : List ℕ) → every p cs ≡ true → every p (criteria (pairs es cs)) ≡ true
unfolding pairs
every_criteria p [] cs h = every_nil p
every_criteria p (e ∷ es) [] h = every_nil p
every_criteria p (e ∷ es) (c ∷ cs) h = every_cons p c (criteria (pairs es cs)) (every_head p c cs h) (every_criteria p es cs (every_tail p c cs h))

every_without : (p : ℕ → Bool) (i : ℕ) (xs : List ℕ) → every p xs ≡ true → every p (without i xs) ≡ true
unfolding without
every_without p i xs h = search (every_append, every_take, every_drop)

abbrev pub is_word : ℕ → Bool
is_word e = ltb e word_end

module _ (t : Table) (h : elements_in_range t ≡ true) where
  queue_elements_fit : (q : ℕ) → every is_word (elements (queue_of t q)) ≡ true
  unfolding queue_of
  queue_elements_fit q = every_elements is_word _ _ (every_front is_word q (length_of t q) t.element h)

  -- ---- the table after a call

  module _ (c : Call) where
    sent : c.b < word_end → elements_in_range (send t c).table ≡ true
    sent l =
        every_laid is_word c.a _ t.element refl h
        (rw map_append
        (every_append is_word _ _ (queue_elements_fit c.a) (every_cons is_word c.b [] (lt-ltb c.b word_end l) (every_nil is_word))))

    taken : elements_in_range (retrieve t c).table ≡ true
    taken = every_laid is_word c.a _ t.element refl h (rw map_without (every_without is_word _ _ (queue_elements_fit c.a)))

    rung : elements_in_range (tick t c).table ≡ true
    unfolding ticked
    rung = rw (ringing_same (λ u. u.element) (λ i g u. refl) (later t.ticks 1) t.timers t) h

    -- ENTER and EXIT do one of two things each, and neither touches an element
    entered : elements_in_range (enter t c).table ≡ true
    entered = either_effect (λ e. elements_in_range e.table ≡ true) (held_by_other c.caller (region_of t c.a)) h h

    left : elements_in_range (exit t c).table ≡ true
    left = either_effect (λ e. elements_in_range e.table ≡ true) (hands_on c.a t) h h

    effect_elements : (c.operation ≡ SEND → c.b < word_end) → elements_in_range (effect t c).table ≡ true
    effect_elements =
        each_effect t c (λ n e. (n ≡ SEND → c.b < word_end) → elements_in_range e.table ≡ true)
        (λ u. h, (λ u. h, (λ u. h, (λ u. h, (λ u. h, (λ u. h, (λ u. entered, (λ u. left, (λ u. sent (u refl), (λ u. taken, (λ u. h, (λ u. h, (λ u. rung, tt)))))))))))))
        (λ n u. h)

    pub elements_kept : (c.operation ≡ SEND → c.b < word_end) → elements_in_range (step t c).table ≡ true
    unfolding step
    elements_kept u = go (is_zero (refusal t c)) refl
      where
        go : (b : Bool) → is_zero (refusal t c) ≡ b → elements_in_range (step t c).table ≡ true
        go true z = rw z (effect_elements u)
        go false z = rw z h

  -- ---- what an accepted call answers

  module _ (v : valid t ≡ true) (c : Call) where
    given_element : (retrieve t c).given.element < word_end
    given_element =
        let queue = queue_of t c.a in
        let at = place c.c queue in
        ltb-true _ word_end
        (rw (← get_or-map (λ p. p.element) queue at no_pair) (every_at is_word (elements queue) at 0 (queue_elements_fit c.a) refl))

    given_criterion : (retrieve t c).given.criterion < criterion_end
    unfolding criteria_in_range queue_of
    given_criterion =
        let queue = queue_of t c.a in
        let at = place c.c queue in
        let stored = every_front criterion_in_range c.a (length_of t c.a) t.criterion (parts_of t v).criteria in
        let fit = every_criteria criterion_in_range _ _ stored in
        ltb-true _ criterion_end
        (rw (← get_or-map (λ p. p.criterion) queue at no_pair) (every_at criterion_in_range (criteria queue) at 0 fit refl))

    -- status 0 or 1, an element, a criterion
    abbrev Small : Effect → Type 0
    Small e = (e.status < 2) × (e.given.element < word_end) × (e.given.criterion < byte_end)

    pub effect_small : Small (effect t c)
    effect_small =
        each_effect t c (λ n e. Small e)
        (zeros, (zeros, (zeros, (zeros, (waits, (zeros, (suspends, (leaves, (zeros, (gives, (zeros, (zeros, (zeros, tt)))))))))))))
        (λ n. zeros)
      where
        zeros : (0 < 2) × (0 < word_end) × (0 < byte_end)
        zeros = omega arith

        one : (b : Bool) → cond b 0 1 < 2
        one true = omega arith
        one false = omega arith

        waits : Small (wait t c)
        waits = (one (met c.b c.a (task_of t c.caller).arrived), omega arith, omega arith)

        suspends : Small (enter t c)
        suspends = either_effect Small (held_by_other c.caller (region_of t c.a)) (omega arith) zeros

        leaves : Small (exit t c)
        leaves = either_effect Small (hands_on c.a t) zeros zeros

        gives : Small (retrieve t c)
        gives = let l = given_criterion in (omega arith, given_element, omega arith)
