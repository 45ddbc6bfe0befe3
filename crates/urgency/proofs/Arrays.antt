-- An array made by a function of the place is the column of its values.
use Rattle.std.proofs.Common.{ℕ, zero, suc, ◌+◌, ◌<◌, ◌≡◌, List, get_or, refl, ◌∙◌, sym, arith}
use Rattle.std.specs.Array.{IsFromFnResultFrom, IsFromFnResult, MapsFrom, IsMapOf}
use denote.Param.Members.{Mut}
use Rattle.std.specs.Fn.{Called}
use Rattle.rules.specs.Words.{column}
use Rattle.rules.proofs.Columns.{column_is}

module _ {F : Type 0} (g : Mut F (ℕ × Unit {0}) ℕ) (value : ℕ → ℕ) (f : F) (step : (i y : ℕ) (q : F) → Called g f (i, tt) y q → (q ≡ f) × (y ≡ value i)) where
  from_each : (ys : List ℕ) (k n : ℕ) (p : F) → p ≡ f → IsFromFnResultFrom g p ys k n → (i : ℕ) → i < n → value (k + i) ≡ get_or ys (k + i) 0
  from_each ys k zero p e h i l = absurd (omega arith)
  from_each ys k (suc n) p e h zero l =
      let same : k + 0 ≡ k = omega arith in
      let called = step k h.1 h.0 (rw e at h.3) in
      rw same (sym called.1 ∙ sym (h.2.1 0))
  from_each ys k (suc n) p e h (suc i) l =
      let move : k + suc i ≡ k + 1 + i = omega arith in
      let called = step k h.1 h.0 (rw e at h.3) in
      rw move (from_each ys (k + 1) n h.0 called.0 h.4 i (omega arith))

  pub column_from : (n : ℕ) (ys : List ℕ) → IsFromFnResult g f ys n → ys ≡ column n value
  column_from n ys h = sym (column_is n value ys h.long (λ i l. let none : 0 + i ≡ i = omega arith in rw none at (from_each ys 0 n f refl h.each i l)))

-- An array made from another, entry by entry.
module _ {F A : Type 0} (g : Mut F (A × Unit {0}) ℕ) (value : A → ℕ) (f : F) (step : (x : A) (y : ℕ) (q : F) → Called g f (x, tt) y q → (q ≡ f) × (y ≡ value x)) (d : A) where
  map_each : (xs : List A) (ys : List ℕ) (k n : ℕ) (p : F) → p ≡ f → MapsFrom g p xs ys k n → (i : ℕ) → i < n → value (get_or xs (k + i) d) ≡ get_or ys (k + i) 0
  map_each xs ys k zero p e h i l = absurd (omega arith)
  map_each xs ys k (suc n) p e h zero l =
      let same : k + 0 ≡ k = omega arith in
      let called = step h.1 h.2 h.0 (rw e at h.5) in
      rw (same, h.3.1 d) (sym called.1 ∙ sym (h.4.1 0))
  map_each xs ys k (suc n) p e h (suc i) l =
      let move : k + suc i ≡ k + 1 + i = omega arith in
      let called = step h.1 h.2 h.0 (rw e at h.5) in
      rw move (map_each xs ys (k + 1) n h.0 called.0 h.6 i (omega arith))

  pub column_map : (n : ℕ) (xs : List A) (ys : List ℕ) → IsMapOf g f xs ys n → ys ≡ column n (λ i. value (get_or xs i d))
  column_map n xs ys h = sym (column_is n _ ys h.long (λ i l. let none : 0 + i ≡ i = omega arith in rw none at (map_each xs ys 0 n f refl h.each i l)))
