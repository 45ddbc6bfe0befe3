-- What comes of making a block fresh: refused by its size, or made.
use Rattle.std.proofs.Common.{ℕ, ◌≡◌, refl, ap, ◌∙◌, List, length, eq-eqb, ne_eqb}
use Rattle.rules.specs.declared.Done.{Done}
use Rattle.rules.specs.Fresh.{fresh}
use Rattle.packing.specs.Answers.{answer_number}
use Rattle.layout.specs.Layout.{block_size, packed}
use Rattle.layout.specs.Calls.{Stored, not_a_table_number, fresh_block}
use Rattle.layout.proofs.Tables.{ten_is}

module _ (block : List ℕ) (tasks regions queues : ℕ) (priorities bounds marks : List ℕ) where
  abbrev made : Stored
  made = fresh_block block tasks regions queues priorities bounds marks

  pub fresh_refused : (length block ≡ block_size → ⊥) → (not_a_table_number ≡ made.answer) × (block ≡ made.block)
  unfolding fresh_block
  fresh_refused n = rw (ne_eqb (length block) block_size n) (ten_is, refl)

  pub fresh_made : (d : Done) (after : List ℕ) (n : ℕ) → length block ≡ block_size → d ≡ fresh tasks regions queues priorities bounds marks
      → after ≡ packed d.table → n ≡ answer_number d.answer → (n ≡ made.answer) × (after ≡ made.block)
  unfolding fresh_block
  fresh_made d after n size e p a =
      rw (eq-eqb (length block) block_size size) (a ∙ ap (λ x. answer_number x.answer) e, p ∙ ap (λ x. packed x.table) e)
