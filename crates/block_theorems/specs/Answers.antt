-- Demand 2 over blocks: the answer is read back from its number, which no other answer has.
use Rattle.std.specs.Prelude.{ℕ, ◌/◌, ◌%◌, ◌≡◌, true, cond, List, eqb, length}
use Rattle.rules.specs.declared.Call.{Call}
use Rattle.rules.specs.declared.Answer.{Answer}
use Rattle.rules.specs.Fresh.{fresh}
use Rattle.rules.specs.Step.{step}
use Rattle.layout.specs.Layout.{block_size, unpacked, is_table}
use Rattle.packing.specs.Answers.{answer_number}
use Rattle.layout.specs.Calls.{not_a_table, fresh_block, call_block, query, query_block}
use Rattle.block_theorems.specs.Ranges.{are_bytes, answer_in_range}

-- ---- an answer's number taken apart: bits 0 to 7, 8 to 15, 16 to 23, 24 to 31, and the upper half

abbrev pub status_in : ℕ → ℕ
status_in n = n % 256

abbrev pub elected_in : ℕ → ℕ
elected_in n = n / 256 % 256

abbrev pub key_in : ℕ → ℕ
key_in n = n / 65536 % 256

abbrev pub displaced_in : ℕ → ℕ
displaced_in n = n / 16777216 % 256

abbrev pub value_in : ℕ → ℕ
value_in n = n / 4294967296

abbrev pub answer_in : ℕ → Answer
answer_in n = record { status = status_in n; value = value_in n; key = key_in n; elected = elected_in n; displaced = displaced_in n }

abbrev pub AnswerReadBack : Type 0
AnswerReadBack = (r : Answer) → answer_in_range r ≡ true → answer_in (answer_number r) ≡ r

-- so no two answers share a number
abbrev pub OneNumber : Type 0
OneNumber = (r s : Answer) → answer_in_range r ≡ true → answer_in_range s ≡ true → answer_number r ≡ answer_number s → r ≡ s

-- ---- what is read from the number is the answer that the rules give

pub record AnswersRead : Type 0 where
  pub call : (block : List ℕ) (c : Call) → are_bytes block ≡ true
      → answer_in (call_block block c).answer ≡ cond (is_table block) (step (unpacked block) c).answer not_a_table
  pub query : (block : List ℕ) (number caller a b : ℕ) → are_bytes block ≡ true
      → answer_in (query_block block number caller a b) ≡ cond (is_table block) (query (unpacked block) number caller a b) not_a_table
  pub fresh_block : (block : List ℕ) (tasks regions queues : ℕ) (priorities bounds marks : List ℕ)
      → answer_in (fresh_block block tasks regions queues priorities bounds marks).answer
      ≡ cond (eqb (length block) block_size) (fresh tasks regions queues priorities bounds marks).answer not_a_table
