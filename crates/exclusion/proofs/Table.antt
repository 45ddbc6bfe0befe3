-- One computed test shows that the exclusion table is symmetric and that SIGNAL's row is the paper's; the laws for every number follow from it.
-- Assumes nothing.
use Rattle.std.proofs.Common.{ℕ, zero, suc, ◌≤◌, ◌<◌, Bool, true, false, not, List, [], ◌∷◌, map, get_or, ◌≡◌, refl, sym, ap, ◌∙◌, arith}
use Rattle.std.proofs.lemmas.Bool.{false≢true}
use Rattle.std.proofs.Math.Decide.{dec_lt}
use Rattle.std.proofs.Math.Nat.{le_of_suc-le-suc, not-suc-le-zero}
use Rattle.std.proofs.Math.ListN.{get_or-eq_default, get_or-map}
use Rattle.exclusion.specs.Marks.{x, o, row, marks, mark, signal, passes_signal}

-- the values of f at the first n numbers
abbrev firsts {ℓ} : {A : Type ℓ} → (ℕ → A) → ℕ → List A
firsts f zero = []
firsts f (suc n) = f zero ∷ firsts (λ k. f (suc k)) n

get_d_firsts {ℓ} : {A : Type ℓ} (f : ℕ → A) (n k : ℕ) (d : A) → k < n → get_or (firsts f n) k d ≡ f k
get_d_firsts f zero k d h = absurd (not-suc-le-zero h)
get_d_firsts f (suc n) zero d h = refl
get_d_firsts f (suc n) (suc k) d h = get_d_firsts (λ j. f (suc j)) n k d (le_of_suc-le-suc h)

column : ℕ → List Bool
column b = map (λ r. get_or r b true) marks

-- `++++++----`
signal_row : List Bool
signal_row = row x x x x x x o o o o

-- The test, of the whole table and of SIGNAL's row. Rows that are the first ten columns are ten rows of ten marks, and symmetric.
test : ◌≡◌ {A = List (List Bool) × List Bool} (marks, get_or marks signal []) (firsts column 10, signal_row)
unfolding marks column signal_row
test = refl

row_is_column : (a : ℕ) → a < 10 → get_or marks a [] ≡ column a
row_is_column a h = ap (λ t. get_or t.0 a []) test ∙ get_d_firsts column 10 a [] h

signal_row_is : get_or marks signal [] ≡ signal_row
signal_row_is = ap (λ t. t.1) test

pub unknown_excludes : (a b : ℕ) → 10 ≤ a → mark a b ≡ true
unfolding mark marks
unknown_excludes a b h = rw (get_or-eq_default marks [] h)

known_symmetric : (a b : ℕ) → a < 10 → mark a b ≡ mark b a
unfolding mark column
known_symmetric a b h = rw (row_is_column a h) (get_or-map (λ r. get_or r a true) marks b [])

pub symmetric : (a b : ℕ) → mark a b ≡ mark b a
symmetric a b =
    elim (dec_lt a 10) [
      | yes h ↦ known_symmetric a b h
      | no h ↦ elim (dec_lt b 10) [
        | yes k ↦ sym (known_symmetric b a k)
        | no k ↦ unknown_excludes a b (omega arith) ∙ sym (unknown_excludes b a (omega arith))
      ]
    ]

-- P holds at each place that the row marks `-`
abbrev AtPassing {ℓ} : (ℕ → Type ℓ) → List Bool → Type ℓ
AtPassing P [] = Unit
AtPassing P (true ∷ r) = AtPassing (λ n. P (suc n)) r
AtPassing P (false ∷ r) = P zero × AtPassing (λ n. P (suc n)) r

passing_cases {ℓ} : (P : ℕ → Type ℓ) (r : List Bool) → AtPassing P r → (n : ℕ) → not (get_or r n true) ≡ true → P n
passing_cases P [] p n h = absurd (false≢true h)
passing_cases P (true ∷ r) p zero h = absurd (false≢true h)
passing_cases P (true ∷ r) p (suc n) h = passing_cases (λ k. P (suc k)) r p n h
passing_cases P (false ∷ r) p zero h = p.0
passing_cases P (false ∷ r) p (suc n) h = passing_cases (λ k. P (suc k)) r p.1 n h

-- the operations that SIGNAL's row marks `-` are ENTER, EXIT, SEND and RETRIEVE: a property of these four holds of all that it passes
pub passes_cases {ℓ} : (P : ℕ → Type ℓ) → P 6 → P 7 → P 8 → P 9 → (n : ℕ) → passes_signal n ≡ true → P n
unfolding passes_signal mark signal_row
passes_cases P enter exit send retrieve n h =
    passing_cases P signal_row (enter, (exit, (send, (retrieve, tt)))) n (rw signal_row_is at h)

pub passes : (passes_signal 6 ≡ true) × (passes_signal 7 ≡ true) × (passes_signal 8 ≡ true) × (passes_signal 9 ≡ true)
unfolding passes_signal mark marks
passes = (refl, refl, refl, refl)
