-- Laws of a region's count: what it is beside its holder, what EXIT makes of both, and the columns that say them.
use Prim.Native.Nat.{ℕ, suc, ◌-◌, ◌<◌, ◌≤◌}
use mathlib.Core.Path.{◌≡◌, refl, sym, ◌∙◌}
use mathlib.Core.Logic.{◌≢◌}
use mathlib.Core.Bool.{Bool, true, false, not, ◌&&◌, ◌||◌}
use mathlib.Core.List.{List}
use native.Mathlib.Omega.{arith}
use lib.Dec.{ltb, leb}
use lib.ListN.{get_or, set, length}
use lib.Seq.{get_or-set_same, get_or-set_other, set-set}
use borrow.Author.Tests.{eqb-true, eqb-false, ne_eqb, ltb-true, leb-true, lt-ltb, le-leb}
use Rattle.rules.specs.declared.Region.{Region}
use Rattle.rules.specs.declared.Table.{Table}
use Rattle.rules.specs.Numbers.{region_room, most_entries}
use Rattle.rules.specs.Words.{is_zero}
use Rattle.rules.specs.Regions.{exited}
use Rattle.rules.specs.Tables.{region_of, with_region}
use Rattle.rules.specs.Validity.{shaped, entries_fit}
use Rattle.rules.proofs.Bools.{given, and_left, and_right, both}
use Rattle.rules.proofs.Lists.{altered_set, altered_id}

-- a region that this task has entered so often
abbrev pub entered_by : ℕ → ℕ → Region
entered_by task n = record { holder = suc task; entries = n }

abbrev pub free_region : Region
free_region = record { holder = 0; entries = 0 }

-- ---- a count that fits its holder

module _ (h n : ℕ) (fit : entries_fit h n ≡ true) where
  -- at most 255, and not 0 where there is a holder
  pub entries_most : n ≤ most_entries
  entries_most = go (is_zero h) refl
    where
      go : (b : Bool) → is_zero h ≡ b → n ≤ most_entries
      go true e = let z : n ≡ 0 = eqb-true n 0 (rw e at fit) in omega arith
      go false e = leb-true n most_entries (and_right (ltb 0 n) _ (rw e at fit))

  pub entries_some : h ≢ 0 → 0 < n
  entries_some some = ltb-true 0 n (and_left _ (leb n most_entries) (rw (ne_eqb h 0 some) at fit))

pub entries_shown : (h n : ℕ) → h ≢ 0 → 0 < n → n ≤ most_entries → entries_fit h n ≡ true
entries_shown h n some l k = rw (ne_eqb h 0 some) (both {a = ltb 0 n} (lt-ltb 0 n l) (le-leb n most_entries k))

-- of numbers up to 255, as an array holds them: both are 0 or neither is
pub entries_fit_both : (h n : ℕ) → n ≤ most_entries → entries_fit h n ≡ ((is_zero h && is_zero n) || (not (is_zero h) && not (is_zero n)))
entries_fit_both h n k = go (is_zero h) (is_zero n) refl refl
  where
    go : (b c : Bool) → is_zero h ≡ b → is_zero n ≡ c → entries_fit h n ≡ ((is_zero h && is_zero n) || (not (is_zero h) && not (is_zero n)))
    go true true e f = simp (e, f)
    go true false e f = simp (e, f)
    go false true e f = let z : n ≡ 0 = eqb-true n 0 f in rw (e, z) refl
    go false false e f =
        let some : n ≢ 0 = eqb-false n 0 f in
        rw (entries_shown h n (eqb-false h 0 e) (omega arith) k, e, f) refl

-- ---- EXIT of one region

module _ (task : ℕ) where
  -- one entry less, and "free only at the matching EXIT"
  pub exit_frees : exited (entered_by task 1) ≡ free_region
  exit_frees = refl

  pub exit_keeps : (n : ℕ) → n ≢ 0 → exited (entered_by task (suc n)) ≡ entered_by task n
  exit_keeps n some = let e : suc n - 1 ≡ n = omega arith in rw (ne_eqb (suc n) 1 (omega (arith, some)), e)

-- ---- the columns

pub regions_long : (t : Table) → shaped t ≡ true → (length t.holder ≡ region_room) × (length t.entries ≡ region_room)
unfolding shaped
regions_long t s = let g = (given _ s).1.1.1.1.1 in (eqb-true _ _ g.0, eqb-true _ _ g.1.0)

module _ (i : ℕ) (r : Region) (t : Table) where
  -- the region itself, and another
  pub region_same : shaped t ≡ true → i < region_room → region_of (with_region i r t) i ≡ r
  region_same s h k =
      let l = regions_long t s in
      record {
        holder = get_or-set_same t.holder i r.holder 0 (rw l.0 h) k;
        entries = get_or-set_same t.entries i r.entries 0 (rw l.1 h) k;
      }

  pub region_other : (j : ℕ) → j ≢ i → region_of (with_region i r t) j ≡ region_of t j
  region_other j n = simp (get_or-set_other t.holder i j r.holder 0 n, get_or-set_other t.entries i j r.entries 0 n)

  -- the last change counts
  pub region_again : (s : Region) → with_region i r (with_region i s t) ≡ with_region i r t
  region_again s = simp set-set

-- what a region is already changes nothing
pub region_back : (i : ℕ) (t : Table) → with_region i (region_of t i) t ≡ t
region_back i t = simp (same t.holder, same t.entries)
  where
    same : (xs : List ℕ) → set xs i (get_or xs i 0) ≡ xs
    same xs = sym (altered_set (λ x. x) i 0 xs) ∙ altered_id i xs
