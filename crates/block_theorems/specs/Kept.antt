-- An accepted block is accepted after every call, and a refused call does not touch it.
use Rattle.std.specs.Prelude.{ℕ, ◌≤◌, ◌≡◌, ◌≢◌, true, false, List, length, replicate}
use Rattle.rules.specs.declared.Call.{Call}
use Rattle.rules.specs.Fresh.{fresh_table}
use Rattle.rules.specs.Step.{step}
use Rattle.layout.specs.Layout.{block_size, unpacked, is_table}
use Rattle.layout.specs.Calls.{Stored, not_a_table, fresh_block, call_block}
use Rattle.block_theorems.specs.Ranges.{are_bytes, call_in_range}
use Rattle.block_theorems.specs.Answers.{status_in, answer_in}

-- the block after a call on an accepted one: the table in it is the one after the step
pub record Stays (block : List ℕ) (c : Call) : Type 0 where
  pub bytes : are_bytes (call_block block c).block ≡ true
  pub accepted : is_table (call_block block c).block ≡ true
  pub table : unpacked (call_block block c).block ≡ (step (unpacked block) c).table

abbrev pub KeptBlock : Type 0
KeptBlock = (block : List ℕ) (c : Call) → are_bytes block ≡ true → is_table block ≡ true → call_in_range c ≡ true → Stays block c

-- "A block of wrong size or not a valid table gets 10 and isn't touched"
abbrev pub DamagedBlock : Type 0
DamagedBlock =
    (block : List ℕ) (c : Call) → is_table block ≡ false → ((call_block block c).block ≡ block) × (answer_in (call_block block c).answer ≡ not_a_table)

-- "Every refusal leaves the table as it came in": the bytes too
abbrev pub UntouchedBlock : Type 0
UntouchedBlock =
    (block : List ℕ) (c : Call) → are_bytes block ≡ true → 10 ≤ status_in (call_block block c).answer → (call_block block c).block ≡ block

-- what becomes of a block by making it fresh, by the status that is answered
pub record Made (block : List ℕ) (tasks regions queues : ℕ) (priorities bounds marks : List ℕ) (s : Stored) : Type 0 where
  -- accepted, with the fresh table in it
  pub fresh : status_in s.answer ≡ 0
      → (are_bytes s.block ≡ true) × (is_table s.block ≡ true) × (unpacked s.block ≡ fresh_table tasks regions queues priorities bounds marks)
  -- "its 20 leaves the block all 0"
  pub zeros : status_in s.answer ≡ 20 → s.block ≡ replicate block_size 0
  -- "Make fresh looks only at the size": there is one status more, and it is given for another size
  pub other : status_in s.answer ≢ 0 → status_in s.answer ≢ 20 → (length block ≢ block_size) × (status_in s.answer ≡ 10) × (s.block ≡ block)

abbrev pub FreshBlock : Type 0
FreshBlock =
    (block : List ℕ) (tasks regions queues : ℕ) (priorities bounds marks : List ℕ)
    → Made block tasks regions queues priorities bounds marks (fresh_block block tasks regions queues priorities bounds marks)
