-- An answer is read back from its number; the numbers of answers that the rules give are of their types.
use Rattle.std.proofs.Common.{ℕ, ◌<◌, ◌≡◌, refl, sym, ap, ◌∙◌, Bool, true, false, cond, not, ◌&&◌, ◌||◌, List, [], ◌∷◌, arith, eqb, ltb, leb, get_or, length, ltb-true, lt-ltb}
use Rattle.rules.specs.declared.Table.{Table}
use Rattle.rules.specs.declared.Call.{Call}
use Rattle.rules.specs.declared.Answer.{Answer}
use Rattle.rules.specs.Numbers.{nobody}
use Rattle.rules.specs.Words.{is_zero, all, every, Reason, first}
use Rattle.rules.specs.Events.{met}
use Rattle.rules.specs.Tasks.{suspended}
use Rattle.rules.specs.Election.{ready_at, displaced_by}
use Rattle.rules.specs.Urgency.{state_with}
use Rattle.rules.specs.Tables.{task_of, bound_of, queue_of, settled}
use Rattle.rules.specs.Answers.{reported, replied}
use Rattle.rules.specs.Validity.{valid}
use Rattle.rules.specs.Fresh.{configuration_in_range, fresh_table, fresh}
use Rattle.rules.specs.Refusals.{reasons, arrived_reasons, object_reasons, refusal}
use Rattle.rules.specs.Queries.{one_if, arrived_query, empty_query, full_query, priority_query, state_query}
use Rattle.rules.specs.Effects.{effect}
use Rattle.rules.specs.Step.{step}
use Rattle.rules.proofs.Bools.{given, shown}
use Rattle.rules.proofs.Lists.{every_head, every_tail, every_cons, every_nil, every_at}
use Rattle.rules.proofs.Validity.{parts_of}
use Rattle.theorems.proofs.Kept.{valid_kept}
use Rattle.packing.proofs.RoundTrips.{fits}
use Rattle.layout.specs.Layout.{block_size, unpacked, is_table}
use Rattle.packing.specs.Answers.{answer_number}
use Rattle.layout.specs.Calls.{not_a_table, fresh_block, call_block, query, query_block}
use Rattle.block_theorems.specs.Ranges.{byte_end, word_end, are_bytes, elements_in_range, answer_in_range}
use Rattle.block_theorems.specs.Answers.{answer_in, AnswerReadBack, OneNumber, AnswersRead}
use Rattle.block_theorems.proofs.Fitting.{Fitting, elected_fits, fitting}
use Rattle.block_theorems.proofs.Packs.{unpack_then_pack}
use Rattle.block_theorems.proofs.Elements.{effect_small}

same_answer_lem : (r s : Answer) → r.status ≡ s.status → r.value ≡ s.value → r.key ≡ s.key → r.elected ≡ s.elected
    → r.displaced ≡ s.displaced → r ≡ s
same_answer_lem r s a b c d e = λ i. record { status = a i; value = b i; key = c i; elected = d i; displaced = e i }

pub answer_read_back : AnswerReadBack
unfolding answer_number answer_in_range
answer_read_back r h =
    let (s, (e, (k, (d, (v, u))))) = given _ h in
    let status = ltb-true r.status byte_end s in
    let elected = ltb-true r.elected byte_end e in
    let key = ltb-true r.key byte_end k in
    let displaced = ltb-true r.displaced byte_end d in
    let value = ltb-true r.value word_end v in
    same_answer_lem (answer_in (answer_number r)) r (omega arith) (omega arith) (omega arith) (omega arith) (omega arith)

pub one_number : OneNumber
one_number r s h k e = sym (answer_read_back r h) ∙ ap answer_in e ∙ answer_read_back s k

-- ---- the answers of the rules are in range

reported_fits : (t : Table) (status : ℕ) → fits 1 t.elected ≡ true → ltb (reported t status) byte_end ≡ true
reported_fits t status h = go (eqb status 10 || eqb status 20) refl
  where
    go : (b : Bool) → (eqb status 10 || eqb status 20) ≡ b → ltb (reported t status) byte_end ≡ true
    go true e = rw e refl
    go false e = rw e h

answer_fits : (t : Table) (status value key displaced : ℕ) → fits 1 t.elected ≡ true → status < byte_end → value < word_end → key < byte_end → displaced < byte_end
    → answer_in_range (record { status = status; value = value; key = key; elected = reported t status; displaced = displaced }) ≡ true
unfolding answer_in_range
answer_fits t status value key displaced h s v k d =
    shown _ (lt-ltb status byte_end s, (reported_fits t status h, (lt-ltb key byte_end k, (lt-ltb displaced byte_end d, (lt-ltb value word_end v, tt)))))

-- the one displaced is the former elected task or nobody
displaced_fits : (former : ℕ) (states : List ℕ) (elected : ℕ) → former < byte_end → displaced_by former states elected < byte_end
unfolding displaced_by
displaced_fits former states elected h = go (ready_at states former && not (eqb former elected))
  where
    go : (b : Bool) → cond b former nobody < byte_end
    go true = h
    go false = omega arith

abbrev low_status : Reason → Bool
low_status r = ltb r.status byte_end

first_low : (rs : List Reason) → every low_status rs ≡ true → first rs < byte_end
first_low [] h = omega arith
first_low (r ∷ rs) h = go r.applies refl (first_low rs (every_tail low_status r rs h))
  where
    go : (b : Bool) → r.applies ≡ b → first rs < byte_end → first (r ∷ rs) < byte_end
    go true e ih = rw e (ltb-true r.status byte_end (every_head low_status r rs h))
    go false e ih = rw e ih

refusal_low : (t : Table) (c : Call) → refusal t c < byte_end
unfolding refusal reasons every
refusal_low t c = first_low (reasons t c) refl

module _ (t : Table) (v : valid t ≡ true) (h : elements_in_range t ≡ true) where
  fit : Fitting t
  fit = fitting t (parts_of t v) h

  step_fits : (c : Call) → answer_in_range (step t c).answer ≡ true
  unfolding step
  step_fits c = go (is_zero (refusal t c)) refl
    where
      go : (b : Bool) → is_zero (refusal t c) ≡ b → answer_in_range (step t c).answer ≡ true
      go true z =
          let u = settled (effect t c).table in
          let right : valid u ≡ true = rw z at (valid_kept t c v) in
          let (status, element, criterion) = effect_small t h v c in
          let was : t.elected < byte_end = ltb-true t.elected byte_end fit.elected in
          rw z (answer_fits u (effect t c).status _ _ _ (elected_fits u (parts_of u right)) (omega arith) element criterion (displaced_fits t.elected _ _ was))
      go false z = let l = refusal_low t c in rw z (answer_fits t (refusal t c) 0 0 nobody fit.elected (omega arith) (omega arith) (omega arith) (omega arith))

  -- a query's reply, 0 where it is refused
  reply_fits : (status value : ℕ) → status < byte_end → value < word_end → answer_in_range (replied t status value) ≡ true
  reply_fits status value l k = answer_fits t status _ 0 nobody fit.elected (omega arith) (small (is_zero status)) (omega arith) (omega arith)
    where
      small : (b : Bool) → cond b value 0 < word_end
      small true = k
      small false = omega arith

  object_low : (count i : ℕ) → first (object_reasons t count i) < byte_end
  unfolding object_reasons every
  object_low count i = first_low (object_reasons t count i) refl

  arrived_low : (caller list operator : ℕ) → first (arrived_reasons t caller list operator) < byte_end
  unfolding arrived_reasons every
  arrived_low caller list operator = first_low (arrived_reasons t caller list operator) refl

  one_if_small : (b : Bool) → one_if b < word_end
  one_if_small true = omega arith
  one_if_small false = omega arith

  column_small : (ns : List ℕ) (i : ℕ) → every (fits 1) ns ≡ true → get_or ns i 0 < word_end
  column_small ns i e = let l = ltb-true (get_or ns i 0) byte_end (every_at (fits 1) ns i 0 e refl) in omega arith

  -- a state as stored, or 3
  state_small : (i : ℕ) → state_with (get_or t.awaits i 0) (get_or t.state i 0) < word_end
  state_small i = go (is_zero (get_or t.awaits i 0))
    where
      go : (b : Bool) → cond b (get_or t.state i 0) suspended < word_end
      go true = column_small t.state i fit.state
      go false = omega arith

  query_fits : (number caller a b : ℕ) → answer_in_range (query t number caller a b) ≡ true
  unfolding query arrived_query empty_query full_query priority_query state_query
  query_fits number caller a b =
      every_at answer_in_range _ number (replied t 11 0)
      (every_cons answer_in_range _ _ (reply_fits _ _ (arrived_low caller a b) (one_if_small (met b a (task_of t caller).arrived)))
      (every_cons answer_in_range _ _ (reply_fits _ _ (object_low t.queues a) (one_if_small (is_zero (length (queue_of t a)))))
      (every_cons answer_in_range _ _ (reply_fits _ _ (object_low t.queues a) (one_if_small (leb (bound_of t a) (length (queue_of t a)))))
      (every_cons answer_in_range _ _ (reply_fits _ _ (object_low t.tasks a) (column_small t.priority a fit.priority))
      (every_cons answer_in_range _ _ (reply_fits _ _ (object_low t.tasks a) (state_small a))
      (every_nil answer_in_range))))))
      (reply_fits 11 0 (omega arith) (omega arith))

fresh_fits : (tasks regions queues : ℕ) (priorities bounds marks : List ℕ) → answer_in_range (fresh tasks regions queues priorities bounds marks).answer ≡ true
unfolding fresh fresh_table answer_in_range all
fresh_fits tasks regions queues priorities bounds marks = go (configuration_in_range tasks regions queues priorities bounds marks) refl
  where
    go : (b : Bool) → configuration_in_range tasks regions queues priorities bounds marks ≡ b
        → answer_in_range (fresh tasks regions queues priorities bounds marks).answer ≡ true
    go true e = rw e refl
    go false e = rw e refl

pub damaged_fits : answer_in_range not_a_table ≡ true
unfolding answer_in_range all
damaged_fits = refl

-- ---- so they are read back

module _ (block : List ℕ) (small : are_bytes block ≡ true) where
  pub call_read : (c : Call) → answer_in (call_block block c).answer ≡ cond (is_table block) (step (unpacked block) c).answer not_a_table
  unfolding call_block
  call_read c = go (is_table block) refl
    where
      go : (b : Bool) → is_table block ≡ b → answer_in (call_block block c).answer ≡ cond (is_table block) (step (unpacked block) c).answer not_a_table
      go true e =
          let u = unpack_then_pack block small e in
          rw e (answer_read_back _ (step_fits (unpacked block) u.right u.elements c))
      go false e = rw e (answer_read_back not_a_table damaged_fits)

  query_read : (number caller a b : ℕ)
      → answer_in (query_block block number caller a b) ≡ cond (is_table block) (query (unpacked block) number caller a b) not_a_table
  unfolding query_block
  query_read number caller a b = go (is_table block) refl
    where
      go : (x : Bool) → is_table block ≡ x
          → answer_in (query_block block number caller a b) ≡ cond (is_table block) (query (unpacked block) number caller a b) not_a_table
      go true e =
          let u = unpack_then_pack block small e in
          rw e (answer_read_back _ (query_fits (unpacked block) u.right u.elements number caller a b))
      go false e = rw e (answer_read_back not_a_table damaged_fits)

fresh_read : (block : List ℕ) (tasks regions queues : ℕ) (priorities bounds marks : List ℕ)
    → answer_in (fresh_block block tasks regions queues priorities bounds marks).answer
    ≡ cond (eqb (length block) block_size) (fresh tasks regions queues priorities bounds marks).answer not_a_table
unfolding fresh_block
fresh_read block tasks regions queues priorities bounds marks = go (eqb (length block) block_size) refl
  where
    go : (x : Bool) → eqb (length block) block_size ≡ x
        → answer_in (fresh_block block tasks regions queues priorities bounds marks).answer
        ≡ cond (eqb (length block) block_size) (fresh tasks regions queues priorities bounds marks).answer not_a_table
    go true e = rw e (answer_read_back _ (fresh_fits tasks regions queues priorities bounds marks))
    go false e = rw e (answer_read_back not_a_table damaged_fits)

pub answers_read : AnswersRead
answers_read =
    record {
      call = λ block c small. call_read block small c;
      query = λ block number caller a b small. query_read block small number caller a b;
      fresh_block = fresh_read;
    }
