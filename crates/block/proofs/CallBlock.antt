-- What comes of a call on a block: refused before the table is looked at, refused by the rules, or done.
use Rattle.std.proofs.Common.{ℕ, ◌<◌, ◌≤◌, ◌≡◌, refl, sym, ap, ap₂, subst, ◌∙◌, Bool, true, false, cond, ◌||◌, List, arith, eqb, length, get_or, replicate}
use lib.ListN.{length-replicate}
use Rattle.rules.specs.declared.Table.{Table}
use Rattle.rules.specs.declared.Call.{Call}
use Rattle.rules.specs.declared.Done.{Done}
use Rattle.rules.specs.Numbers.{store_size, SEND, RETRIEVE}
use Rattle.rules.specs.Words.{is_zero}
use Rattle.rules.specs.Events.{met}
use Rattle.rules.specs.Regions.{held_by_other}
use Rattle.rules.specs.Tables.{task_of, region_of}
use Rattle.rules.specs.Validity.{valid}
use Rattle.rules.specs.Answers.{refused}
use Rattle.rules.specs.Refusals.{reasons, refusal}
use Rattle.rules.specs.Effects.{enter, hands_on, exit, effect}
use Rattle.rules.specs.Step.{step}
use Rattle.rules.proofs.Effects.{each_effect, either_effect}
use Rattle.calls.proofs.Together.{step_contents}
use Rattle.tables.specs.declared.front.Front.{Front}
use Rattle.tables.specs.declared.front.FrontDone.{FrontDone}
use Rattle.tables.specs.Fronts.{whole, front_of, front_done}
use Rattle.packing.specs.Answers.{answer_number}
use Rattle.packing.specs.Bytes.{word_width, taken}
use Rattle.layout.specs.Layout.{element_place, criterion_place, block_size, unpacked, packed, unused_zero, is_table}
use Rattle.layout.specs.Calls.{not_a_table_number, stored, untouched, call_block}
use Rattle.layout.proofs.Back.{all_bytes, bytes_back}
use Rattle.layout.proofs.Reading.{parts_read}
use Rattle.layout.specs.Fronts.{front_taken}
use Rattle.layout.proofs.Sizes.{Sized, unpacked_sized}
use Rattle.layout.proofs.Tables.{ten_is, small_block, used_block, looked_at}
use Rattle.layout.specs.Wholes.{whole_put, front_packed}
use Rattle.layout.proofs.Writing.{whole_put_lem}
use Rattle.layout.proofs.Staying.{front_back}
use Rattle.layout.proofs.PartLengths.{step_sized}

-- ---- the step

step_damaged : (t : Table) (c : Call) → valid t ≡ false → step t c ≡ refused t 10
unfolding step refusal reasons
step_damaged t c d = simp d

effect_low : (t : Table) (c : Call) → (effect t c).status < 10
effect_low t c =
    each_effect t c (λ n e. e.status < 10)
    (low, (low, (low, (low, (waits (met c.b c.a (task_of t c.caller).arrived), (low, (suspends, (leaves, (low, (low, (low, (low, (low, tt)))))))))))))
    (λ n. low)
  where
    low : 0 < 10
    low = omega arith

    waits : (b : Bool) → cond b 0 1 < 10
    waits true = omega arith
    waits false = omega arith

    suspends : (enter t c).status < 10
    suspends = either_effect (λ e. e.status < 10) (held_by_other c.caller (region_of t c.a)) (omega arith) low

    leaves : (exit t c).status < 10
    leaves = either_effect (λ e. e.status < 10) (hands_on c.a t) low low

-- what gets a status from 10 on leaves the table
step_left : (t : Table) (c : Call) → 10 ≤ (step t c).answer.status → (step t c).table ≡ t
unfolding step
step_left t c h = go (is_zero (refusal t c)) refl
  where
    go : (b : Bool) → is_zero (refusal t c) ≡ b → (step t c).table ≡ t
    go true z = let low = effect_low t c in absurd (omega (arith, rw z at h))
    go false z = rw z

-- ---- one call

-- the number that is answered and the block behind it are those of the definition
abbrev Comes : List ℕ → Call → ℕ → List ℕ → Type 0
Comes block k n after = (n ≡ (call_block block k).answer) × (after ≡ (call_block block k).block)

module _ (block : List ℕ) (k : Call) where
  call_untouched : is_table block ≡ false → Comes block k not_a_table_number block
  unfolding call_block
  call_untouched h = rw h (ten_is, refl)

  pub call_small : (length block ≡ block_size → ⊥) → Comes block k not_a_table_number block
  call_small n = call_untouched (small_block block n)

  pub call_used : length block ≡ block_size → unused_zero block ≡ false → Comes block k not_a_table_number block
  call_used size u = call_untouched (used_block block size u)

-- behind the call on the front and the store: the block has its size and its unused bytes are 0; the front and the store are read from it, the
-- call gives `d` and leaves another store, and `n` is the number of its answer
module _ (block : List ℕ) (k : Call) (unused : Bool) (f : Front) (es cs es' cs' : List ℕ) (d : FrontDone) (n : ℕ)
    (size : length block ≡ block_size) (unused_is : unused ≡ unused_zero block) (zero_there : unused ≡ true)
    (small : (i : ℕ) → get_or block i 0 < 256) (front_is : f ≡ front_taken block)
    (es_is : es ≡ taken word_width element_place block (replicate store_size 0))
    (cs_is : cs ≡ taken 1 criterion_place block (replicate store_size 0))
    (done_is : d ≡ front_done (step (whole f es cs) k))
    (es_after : es' ≡ (step (whole f es cs) k).table.element) (cs_after : cs' ≡ (step (whole f es cs) k).table.criterion)
    (number_is : n ≡ answer_number d.answer) where
  abbrev after : Done
  after = step (unpacked block) k

  after_sized : Sized after.table
  after_sized = step_sized (unpacked block) k (unpacked_sized block)

  table_is : whole f es cs ≡ unpacked block
  table_is =
      let zeros = length-replicate {A = ℕ} store_size 0 in
      parts_read block size f front_is _ es zeros es_is _ cs zeros cs_is

  looked : is_table block ≡ valid (unpacked block)
  looked = looked_at block size (sym unused_is ∙ zero_there)

  same_answer : d.answer ≡ after.answer
  same_answer = ap (λ x. x.answer) done_is ∙ ap (λ x. (step x k).answer) table_is

  answered : n ≡ answer_number after.answer
  answered = number_is ∙ ap answer_number same_answer

  damaged : valid (unpacked block) ≡ false → after ≡ refused (unpacked block) 10
  damaged = step_damaged (unpacked block) k

  -- the number is the answer's, also where the table is damaged
  pub call_answer : n ≡ (call_block block k).answer
  unfolding call_block
  call_answer = rw looked (go (valid (unpacked block)) refl)
    where
      go : (b : Bool) → valid (unpacked block) ≡ b → n ≡ (cond b (stored after) (untouched block)).answer
      go true v = answered
      go false v = answered ∙ ap (λ x. answer_number x.answer) (damaged v)

  -- what is refused leaves the block
  pub refused_stored : 10 ≤ d.answer.status → block ≡ (call_block block k).block
  unfolding call_block
  refused_stored high = rw looked (go (valid (unpacked block)) refl)
    where
      left : after.table ≡ unpacked block
      left = step_left (unpacked block) k (rw same_answer at high)

      go : (b : Bool) → valid (unpacked block) ≡ b → block ≡ (cond b (stored after) (untouched block)).block
      go true v = sym (ap packed left ∙ bytes_back block (all_bytes block small) size (sym unused_is ∙ zero_there))
      go false v = refl

  accepted : d.answer.status < 10 → valid (unpacked block) ≡ true
  accepted low = go (valid (unpacked block)) refl
    where
      go : (b : Bool) → valid (unpacked block) ≡ b → valid (unpacked block) ≡ true
      go true v = v
      go false v =
          let ten : d.answer.status ≡ 10 = ap (λ x. x.status) same_answer ∙ ap (λ x. x.answer.status) (damaged v) in
          absurd (omega arith)

  -- SEND and RETRIEVE: the whole table is written
  pub whole_stored : (out : List ℕ) → d.answer.status < 10 → out ≡ whole_put d.front es' cs' block → out ≡ (call_block block k).block
  unfolding call_block
  whole_stored out low w =
      let together : whole d.front es' cs' ≡ after.table = rw (es_after, cs_after, done_is, table_is) refl in
      rw (looked, accepted low)
      (w ∙ whole_put_lem d.front es' cs' block (subst Sized (sym together) after_sized) size ∙ ap packed together)

  -- the other calls leave the store's bytes
  pub front_stored : (out : List ℕ) → d.answer.status < 10 → (eqb k.operation SEND || eqb k.operation RETRIEVE) ≡ false
      → out ≡ front_packed d.front block → out ≡ (call_block block k).block
  unfolding call_block
  front_stored out low other w =
      let kept = step_contents (unpacked block) k other in
      let front : d.front ≡ front_of after.table = ap (λ x. x.front) done_is ∙ ap (λ x. front_of (step x k).table) table_is in
      let together : whole d.front (unpacked block).element (unpacked block).criterion ≡ after.table =
      rw front (ap₂ (whole (front_of after.table)) (sym kept.0) (sym kept.1))
      in
      rw (looked, accepted low)
      (w ∙ front_back d.front block (all_bytes block small) size (subst Sized (sym together) after_sized) ∙ ap packed together)

-- what is no table, what is refused, and what is done
pub ruleset on_a_block = (call_small, call_used, call_answer, refused_stored, whole_stored, front_stored)
