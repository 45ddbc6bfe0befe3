-- Laws of a column: its length, its entries, which list it is, when two are the same; and as a loop stores it.
use Prim.Native.Nat.{ℕ, zero, suc, ◌+◌, ◌<◌, ◌≤◌}
use mathlib.Core.Path.{◌≡◌, refl, sym, ap, ◌∙◌}
use mathlib.Core.List.{List, [], ◌∷◌, ◌++◌}
use mathlib.Core.Bool.{Bool, true, false}
use mathlib.Core.Logic.{◌≢◌}
use native.Mathlib.Omega.{arith}
use native.Mathlib.Numerals.{add-one}
use lib.Dec.{eqb}
use borrow.Author.Tests.{eqb-true, eqb-false}
use lib.ListN.{get_or, length, take, set, length-append, get_or-append, get_or-eq_default}
use lib.Seq.{get_or_at, take-suc, take-suc-set, take_all}
use Rattle.rules.specs.Words.{column}

pub length_column : (n : ℕ) (value : ℕ → ℕ) → length (column n value) ≡ n
unfolding column
length_column zero value = refl
length_column (suc n) value = rw (length-append, length_column n value) (omega arith)

pub column_at : (n : ℕ) (value : ℕ → ℕ) (i : ℕ) → i < n → get_or (column n value) i 0 ≡ value i
unfolding column
column_at zero value i l = absurd (omega arith)
column_at (suc n) value i l = go (eqb i n) refl (column_at n value i)
  where
    go : (b : Bool) → eqb i n ≡ b → (i < n → get_or (column n value) i 0 ≡ value i) → get_or (column n value ++ (value n ∷ [])) i 0 ≡ value i
    go true e ih =
        let same = eqb-true i n e in
        rw same (get_or_at (column n value) (value n) [] 0 n (length_column n value))
    go false e ih =
        let other : i ≢ n = eqb-false i n e in
        let long = length_column n value in
        get_or-append (column n value) (value n ∷ []) 0 i (omega arith) ∙ ih (omega arith)

pub column_past : (n : ℕ) (value : ℕ → ℕ) (i : ℕ) → n ≤ i → get_or (column n value) i 0 ≡ 0
column_past n value i l = let long = length_column n value in get_or-eq_default (column n value) 0 (omega arith)

-- a list that has the values is the column
pub column_take : (n : ℕ) (value : ℕ → ℕ) (l : List ℕ) → n ≤ length l → ((i : ℕ) → i < n → value i ≡ get_or l i 0) → column n value ≡ take n l
unfolding column
column_take zero value l k h = refl
column_take (suc n) value l k h =
    rw (take-suc l n 0 k, h n (omega arith), column_take n value l (omega arith) (λ i j. h i (omega arith)))

pub column_is : (n : ℕ) (value : ℕ → ℕ) (l : List ℕ) → length l ≡ n → ((i : ℕ) → i < n → value i ≡ get_or l i 0) → column n value ≡ l
column_is n value l e h = column_take n value l (omega arith) h ∙ take_all n l (omega arith)

pub column_same : (n : ℕ) (value value' : ℕ → ℕ) → ((i : ℕ) → i < n → value i ≡ value' i) → column n value ≡ column n value'
column_same n value value' h =
    column_is n value (column n value') (length_column n value') (λ i l. h i l ∙ sym (column_at n value' i l))

-- ---- as a loop stores it

module _ (value : ℕ → ℕ) (i : ℕ) (l : List ℕ) where
  pub column_again : {v : ℕ} → take i l ≡ column i value → i < length l → v ≡ value i → take (i + 1) (set l i v) ≡ column (i + 1) value
  unfolding column
  column_again {v} e k h = rw (add-one, take-suc-set l i v k, e, h)

  pub column_end : (n : ℕ) → take i l ≡ column i value → length l ≡ n → i ≤ n → n ≤ i → l ≡ column n value
  column_end n e k h m = let same : i ≡ n = omega arith in sym (take_all i l (omega arith)) ∙ e ∙ ap (λ j. column j value) same
