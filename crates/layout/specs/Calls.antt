-- "Provide: make fresh, one call, one query": what each does to the block, and the number that it answers.
use Rattle.std.specs.Prelude.{ℕ, ◌+◌, ◌*◌, cond, List, [], ◌∷◌, eqb, length}
use Rattle.rules.specs.declared.Table.{Table}
use Rattle.rules.specs.declared.Call.{Call}
use Rattle.rules.specs.declared.Answer.{Answer}
use Rattle.rules.specs.declared.Done.{Done}
use Rattle.rules.specs.Words.{by_operation}
use Rattle.rules.specs.Numbers.{nobody}
use Rattle.rules.specs.Validity.{valid}
use Rattle.rules.specs.Answers.{replied}
use Rattle.rules.specs.Step.{step}
use Rattle.rules.specs.Fresh.{fresh}
use Rattle.rules.specs.Queries.{arrived_query, empty_query, full_query, priority_query, state_query}
use Rattle.packing.specs.Answers.{answer_number}
use Rattle.layout.specs.Layout.{block_size, unpacked, packed, is_table}

-- the block after a call, and the answer's number
pub record Stored : Type 0 where
  pub block : List ℕ
  pub answer : ℕ

abbrev pub stored : Done → Stored
stored d = record { block = packed d.table; answer = answer_number d.answer }

-- "gets 10 and isn't touched"
abbrev pub not_a_table : Answer
not_a_table = record { status = 10; value = 0; key = 0; elected = nobody; displaced = nobody }

-- its number: the status, and nobody for the elected task and for the one displaced
abbrev pub not_a_table_number : ℕ
not_a_table_number = 10 + 256 * nobody + 16777216 * nobody

abbrev pub untouched : List ℕ → Stored
untouched block = record { block = block; answer = answer_number not_a_table }

-- a call by its five numbers
abbrev pub call_of : ℕ → ℕ → ℕ → ℕ → ℕ → Call
call_of caller operation a b c = record { caller = caller; operation = operation; a = a; b = b; c = c }

-- "Make fresh looks only at the size; its 20 leaves the block all 0."
unfoldable pub fresh_block : List ℕ → ℕ → ℕ → ℕ → List ℕ → List ℕ → List ℕ → Stored
fresh_block block tasks regions queues priorities bounds marks =
    cond (eqb (length block) block_size) (stored (fresh tasks regions queues priorities bounds marks)) (untouched block)

unfoldable pub call_block : List ℕ → Call → Stored
call_block block c = cond (is_table block) (stored (step (unpacked block) c)) (untouched block)

-- the queries by number: 0 ARRIVED, 1 EMPTY, 2 FULL, 3 PRIORITY, 4 STATE; above 4 it is 11
unfoldable pub query : Table → ℕ → ℕ → ℕ → ℕ → Answer
query t number caller a b =
    by_operation (replied t 11 0) number
    (arrived_query t caller a b ∷ empty_query t a ∷ full_query t a ∷ priority_query t a ∷ state_query t a ∷ [])

-- a query of a table that may not be valid: 10 comes first
unfoldable pub query_or_ten : Table → ℕ → ℕ → ℕ → ℕ → Answer
query_or_ten t number caller a b = cond (valid t) (query t number caller a b) not_a_table

unfoldable pub query_block : List ℕ → ℕ → ℕ → ℕ → ℕ → ℕ
query_block block number caller a b =
    answer_number (cond (is_table block) (query (unpacked block) number caller a b) not_a_table)
