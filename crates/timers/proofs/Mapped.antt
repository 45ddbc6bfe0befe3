-- Laws of a loop that changes every entry, a turn and its end, over a list whatever it holds.
use Rattle.std.proofs.Common.{◌≡◌, ℕ, zero, suc, ◌+◌, ◌<◌, ◌≤◌, List, [], ◌∷◌, map, length, get_or, set, refl, ap, ◌∙◌, le_of_suc-le-suc, add-one, arith}

-- the first i of them changed
unfoldable pub mapped {ℓ} : {A : Type ℓ} → (A → A) → ℕ → List A → List A
mapped f zero l = l
mapped f (suc i) [] = []
mapped f (suc i) (x ∷ xs) = f x ∷ mapped f i xs

module _ {ℓ} {A : Type ℓ} (f : A → A) where
  pub mapped_start : (l : List A) → l ≡ mapped f 0 l
  unfolding mapped
  mapped_start l = refl

  mapped_set : (i : ℕ) (d : A) (l : List A) → i < length l → set (mapped f i l) i (f (get_or (mapped f i l) i d)) ≡ mapped f (suc i) l
  unfolding mapped
  mapped_set i d [] h = absurd (omega arith)
  mapped_set zero d (x ∷ xs) h = refl
  mapped_set (suc i) d (x ∷ xs) h = ap (λ ys. f x ∷ ys) (mapped_set i d xs (le_of_suc-le-suc h))

  mapped_all : (i : ℕ) (l : List A) → length l ≤ i → mapped f i l ≡ map f l
  unfolding mapped
  mapped_all zero [] h = refl
  mapped_all zero (x ∷ xs) h = absurd (omega arith)
  mapped_all (suc i) [] h = refl
  mapped_all (suc i) (x ∷ xs) h = ap (λ ys. f x ∷ ys) (mapped_all i xs (le_of_suc-le-suc h))

  pub mapped_again : (i : ℕ) (d v : A) (l s : List A) → s ≡ mapped f i l → v ≡ f (get_or s i d) → i < length l
      → set s i v ≡ mapped f (i + 1) l
  mapped_again i d v l s e k h = rw (k, e, add-one) (mapped_set i d l h)

  pub mapped_end : (i : ℕ) (l s : List A) → s ≡ mapped f i l → length l ≤ i → s ≡ map f l
  mapped_end i l s e h = e ∙ mapped_all i l h
