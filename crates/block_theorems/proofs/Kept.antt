-- An accepted block stays accepted, a refused call leaves its bytes, and what making fresh writes.
use Rattle.std.proofs.Common.{ℕ, ◌<◌, ◌≤◌, ◌≡◌, refl, sym, ap, ◌∙◌, subst, ◌≢◌, Bool, true, false, cond, List, arith, eqb, length, replicate, ltb-true}
use borrow.Author.Tests.{eqb-false}
use Rattle.rules.specs.declared.Table.{Table}
use Rattle.rules.specs.declared.Call.{Call}
use Rattle.rules.specs.Numbers.{store_size, nobody, SEND}
use Rattle.rules.specs.Words.{is_zero}
use Rattle.rules.specs.Answers.{done, refused}
use Rattle.rules.specs.Validity.{valid}
use Rattle.rules.specs.Fresh.{configuration_in_range, fresh_table, zero_table, fresh}
use Rattle.rules.specs.Refusals.{refusal}
use Rattle.rules.specs.Effects.{effect}
use Rattle.rules.specs.Step.{step}
use Rattle.rules.proofs.Bools.{given}
use Rattle.rules.proofs.Lists.{every_replicate}
use Rattle.theorems.proofs.Kept.{valid_kept}
use Rattle.theorems.proofs.Fresh.{fresh_valid}
use Rattle.packing.specs.Bytes.{values_bytes, bytes, spread}
use Rattle.packing.specs.Timers.{timer_bytes, timers_bytes}
use Rattle.layout.specs.Layout.{block_size, unpacked, packed, is_table}
use Rattle.packing.specs.Answers.{answer_number}
use Rattle.layout.specs.Calls.{Stored, stored, not_a_table, untouched, fresh_block, call_block}
use Rattle.block_theorems.specs.Ranges.{word_end, are_bytes, elements_in_range, call_in_range}
use Rattle.block_theorems.specs.Answers.{answer_in}
use Rattle.block_theorems.specs.Packed.{Packs}
use Rattle.block_theorems.specs.Kept.{Stays, KeptBlock, DamagedBlock, UntouchedBlock, Made, FreshBlock}
use Rattle.block_theorems.proofs.Packs.{pack_then_unpack, unpack_then_pack}
use Rattle.block_theorems.proofs.Elements.{is_word, elements_kept, effect_small}
use Rattle.block_theorems.proofs.Answers.{answer_read_back, damaged_fits, call_read}

module _ (block : List ℕ) (c : Call) (small : are_bytes block ≡ true) (is : is_table block ≡ true) where
  call_stored : call_block block c ≡ stored (step (unpacked block) c)
  unfolding call_block
  call_stored = rw is

  pub call_answered : answer_in (call_block block c).answer ≡ (step (unpacked block) c).answer
  call_answered = call_read block small c ∙ rw is

  -- of the call's numbers only the element of a SEND can be too large
  pub call_kept : (c.operation ≡ SEND → c.b < word_end) → Stays block c
  call_kept l =
      let u = unpack_then_pack block small is in
      let t = unpacked block in
      let p = pack_then_unpack (step t c).table (valid_kept t c u.right) (elements_kept t u.elements c l) in
      let e = ap (λ s. s.block) call_stored in
      record { bytes = rw e p.bytes; accepted = rw e p.accepted; table = rw e p.back }

pub kept_block : KeptBlock
unfolding call_in_range
kept_block block c small is r = call_kept block c small is (λ s. ltb-true c.b word_end (given _ r).1.1.1.0)

-- ---- refused

step_same : (t : Table) (c : Call) → valid t ≡ true → elements_in_range t ≡ true → 10 ≤ (step t c).answer.status → (step t c).table ≡ t
unfolding step
step_same t c v h l = go (is_zero (refusal t c)) refl
  where
    go : (b : Bool) → is_zero (refusal t c) ≡ b → (step t c).table ≡ t
    go true z = let (low, e, k) = effect_small t h v c in let m : 10 ≤ (effect t c).status = rw z at l in absurd (omega arith)
    go false z = rw z

pub left : (block : List ℕ) (c : Call) → is_table block ≡ false → call_block block c ≡ untouched block
unfolding call_block
left block c e = rw e

pub damaged_block : DamagedBlock
damaged_block block c e =
    let s = left block c e in
    (ap (λ s. s.block) s, ap (λ s. answer_in s.answer) s ∙ answer_read_back not_a_table damaged_fits)

pub untouched_block : UntouchedBlock
untouched_block block c small l = go (is_table block) refl
  where
    go : (b : Bool) → is_table block ≡ b → (call_block block c).block ≡ block
    go true e =
        let u = unpack_then_pack block small e in
        let same = ap (λ r. r.status) (call_answered block c small e) in
        ap (λ s. s.block) (call_stored block c small e)
        ∙ ap packed (step_same (unpacked block) c u.right u.elements (subst (λ n. 10 ≤ n) same l))
        ∙ u.back
    go false e = ap (λ s. s.block) (left block c e)

-- ---- made fresh

zeros_packed : packed zero_table ≡ replicate block_size 0
unfolding packed bytes values_bytes timer_bytes zero_table
zeros_packed = refl

module _ (block : List ℕ) (tasks regions queues : ℕ) (priorities bounds marks : List ℕ) where
  abbrev table : Table
  table = fresh_table tasks regions queues priorities bounds marks

  abbrev in_range : Bool
  in_range = configuration_in_range tasks regions queues priorities bounds marks

  abbrev MadeBy : Stored → Type 0
  MadeBy = Made block tasks regions queues priorities bounds marks

  -- by size and configuration
  fresh_stored : fresh_block block tasks regions queues priorities bounds marks
      ≡ cond (eqb (length block) block_size) (cond in_range (stored (done table 0 0 0 nobody)) (stored (refused zero_table 20))) (untouched block)
  unfolding fresh_block fresh
  fresh_stored = go in_range refl
    where
      go : (b : Bool) → in_range ≡ b → fresh_block block tasks regions queues priorities bounds marks
          ≡ cond (eqb (length block) block_size) (cond in_range (stored (done table 0 0 0 nobody)) (stored (refused zero_table 20))) (untouched block)
      go true e = simp e
      go false e = simp e

  table_packs : in_range ≡ true → Packs table
  unfolding fresh_table
  table_packs e = pack_then_unpack table (fresh_valid tasks regions queues priorities bounds marks e) (every_replicate is_word store_size 0 refl)

  made_fresh : in_range ≡ true → MadeBy (stored (done table 0 0 0 nobody))
  unfolding answer_number fresh_table
  made_fresh e =
      let p = table_packs e in
      record {
        fresh = λ z. (p.bytes, p.accepted, p.back);
        zeros = λ z. absurd (omega arith);
        other = λ n m. absurd (n refl);
      }

  made_zeros : MadeBy (stored (refused zero_table 20))
  unfolding answer_number
  made_zeros = record { fresh = λ z. absurd (omega arith); zeros = λ z. zeros_packed; other = λ n m. absurd (m refl) }

  made_none : length block ≢ block_size → MadeBy (untouched block)
  unfolding answer_number
  made_none size = record { fresh = λ z. absurd (omega arith); zeros = λ z. absurd (omega arith); other = λ n m. (size, refl, refl) }

  made : MadeBy (fresh_block block tasks regions queues priorities bounds marks)
  made = subst MadeBy (sym fresh_stored) (go (eqb (length block) block_size) in_range refl refl)
    where
      go : (b d : Bool) → eqb (length block) block_size ≡ b → in_range ≡ d → MadeBy
          (cond (eqb (length block) block_size) (cond in_range (stored (done table 0 0 0 nobody)) (stored (refused zero_table 20))) (untouched block))
      go true true e f = rw (e, f) (made_fresh f)
      go true false e f = rw (e, f) made_zeros
      go false d e f = rw e (made_none (eqb-false _ _ e))

pub fresh_block_lem : FreshBlock
fresh_block_lem = made
