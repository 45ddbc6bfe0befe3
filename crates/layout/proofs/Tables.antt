-- Whether a block is a table, test by test, and the number of the answer where it is none.
use Rattle.std.proofs.Common.{ℕ, ◌≡◌, refl, Bool, true, false, List, [], ◌∷◌, length, eq-eqb, ne_eqb}
use Rattle.rules.specs.Words.{all}
use Rattle.rules.specs.Validity.{valid}
use Rattle.packing.specs.Answers.{answer_number}
use Rattle.layout.specs.Layout.{block_size, unpacked, unused_zero, is_table}
use Rattle.layout.specs.Calls.{not_a_table, not_a_table_number}

-- the number that stands for 10
pub ten_is : not_a_table_number ≡ answer_number not_a_table
unfolding answer_number
ten_is = refl

module _ (block : List ℕ) where
  pub small_block : (length block ≡ block_size → ⊥) → is_table block ≡ false
  unfolding is_table all
  small_block n = rw (ne_eqb (length block) block_size n)

  pub used_block : length block ≡ block_size → unused_zero block ≡ false → is_table block ≡ false
  unfolding is_table all
  used_block size u = rw (eq-eqb (length block) block_size size, u)

  pub looked_at : length block ≡ block_size → unused_zero block ≡ true → is_table block ≡ valid (unpacked block)
  unfolding is_table all
  looked_at size u = rw (eq-eqb (length block) block_size size, u) (go (valid (unpacked block)))
    where
      go : (b : Bool) → all (true ∷ true ∷ b ∷ []) ≡ b
      go true = refl
      go false = refl
