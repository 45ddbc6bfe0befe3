-- Laws of a replay: the arrays keep their lengths, and what comes of it on a block.
use Rattle.std.proofs.Common.{ℕ, zero, suc, ◌≡◌, refl, sym, ap, subst, ◌∙◌, true, false, List, length, replicate, eq-eqb, ne_eqb}
use lib.ListN.{length-replicate}
use Rattle.rules.specs.declared.Table.{Table}
use Rattle.rules.specs.Numbers.{store_size}
use Rattle.tables.specs.declared.front.Front.{Front}
use Rattle.tables.specs.Fronts.{whole, front_of}
use Rattle.layout.specs.Layout.{block_size, element_place, criterion_place, unpacked, packed, unused_zero}
use Rattle.packing.specs.Bytes.{word_width, taken}
use Rattle.layout.specs.Fronts.{front_taken}
use Rattle.layout.proofs.Reading.{parts_read}
use Rattle.layout.proofs.Sizes.{Sized, unpacked_sized}
use Rattle.layout.specs.Wholes.{whole_put}
use Rattle.layout.proofs.Writing.{whole_put_lem}
use Rattle.layout.proofs.PartLengths.{step_sized}
use Rattle.replay.specs.Log.{call_at, replayed, laps, logged}
use Rattle.replay.specs.Replay.{replay_block}

-- the arrays keep their lengths
replayed_sized : (t : Table) (log old : List ℕ) (n : ℕ) → Sized t → Sized (replayed t log old n).table
unfolding replayed
replayed_sized t log old zero s = s
replayed_sized t log old (suc n) s = step_sized (replayed t log old n).table (call_at log n) (replayed_sized t log old n s)

-- ---- what comes of a block that is no table

module _ (block log answers : List ℕ) where
  abbrev Comes : ℕ → List ℕ → List ℕ → Type 0
  Comes n after said =
      (n ≡ (replay_block block log answers).count) × ((after ≡ (replay_block block log answers).block) × (said ≡ (replay_block block log answers).answers))

  pub replay_small : (length block ≡ block_size → ⊥) → Comes 0 block answers
  unfolding replay_block
  replay_small n = rw (ne_eqb (length block) block_size n) (refl, (refl, refl))

  pub replay_used : length block ≡ block_size → unused_zero block ≡ false → Comes 0 block answers
  unfolding replay_block
  replay_used size u = rw (eq-eqb (length block) block_size size, u) (refl, (refl, refl))

  pub replay_count : (n : ℕ) → length block ≡ block_size → unused_zero block ≡ true → n ≡ laps log answers → n ≡ (replay_block block log answers).count
  unfolding replay_block
  replay_count n size u many = rw (eq-eqb (length block) block_size size, u) many

-- ---- what comes of a table: its front and its store, taken out into arrays of zeros

module _ (block log answers : List ℕ) (size : length block ≡ block_size) (zero_there : unused_zero block ≡ true)
    (f : Front) (front_is : f ≡ front_taken block)
    (es cs : List ℕ) (es_is : es ≡ taken word_width element_place block (replicate store_size 0))
    (cs_is : cs ≡ taken 1 criterion_place block (replicate store_size 0)) where
  abbrev after : Table
  after = (logged (unpacked block) log answers).table

  table_is : whole f es cs ≡ unpacked block
  table_is =
      let zeros = length-replicate {A = ℕ} store_size 0 in
      parts_read block size f front_is _ es zeros es_is _ cs zeros cs_is

  pub replay_answers : (said : List ℕ) → said ≡ (logged (whole f es cs) log answers).answers → said ≡ (replay_block block log answers).answers
  unfolding replay_block
  replay_answers said a = rw (eq-eqb (length block) block_size size, zero_there) (rw table_is at a)

  pub replay_stored : (g : Front) (es' cs' out : List ℕ) → g ≡ front_of (logged (whole f es cs) log answers).table
      → es' ≡ (logged (whole f es cs) log answers).table.element → cs' ≡ (logged (whole f es cs) log answers).table.criterion
      → out ≡ whole_put g es' cs' block → out ≡ (replay_block block log answers).block
  unfolding replay_block
  replay_stored g es' cs' out p q s w =
      let together : whole g es' cs' ≡ after = rw (q, s, p, table_is) refl in
      let sized = replayed_sized (unpacked block) log answers (laps log answers) (unpacked_sized block) in
      rw (eq-eqb (length block) block_size size, zero_there)
      (w ∙ whole_put_lem g es' cs' block (subst Sized (sym together) sized) size ∙ ap packed together)

-- no table, or a replay
pub ruleset on_a_block = (replay_small, replay_used, replay_count, replay_answers, replay_stored)
