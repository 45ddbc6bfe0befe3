-- A log of calls on a block: the block after them, their answers, and how many they are.
use Rattle.std.specs.Prelude.{ℕ, cond, ◌&&◌, List, eqb, length}
use Rattle.layout.specs.Layout.{block_size, unpacked, packed, unused_zero}
use Rattle.replay.specs.Log.{Replayed, laps, logged}

pub record Outcome : Type 0 where
  pub block : List ℕ
  pub answers : List ℕ
  pub count : ℕ

abbrev pub outcome : Replayed → ℕ → Outcome
outcome r n = record { block = packed r.table; answers = r.answers; count = n }

unfoldable pub replay_block : List ℕ → List ℕ → List ℕ → Outcome
replay_block block log answers =
    cond (eqb (length block) block_size && unused_zero block)
    (outcome (logged (unpacked block) log answers) (laps log answers))
    (record { block = block; answers = answers; count = 0 })
