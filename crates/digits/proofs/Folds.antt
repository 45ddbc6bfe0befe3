-- Laws of folds over characters: a number in decimal, and whether each passes a test.
use Rattle.std.proofs.Common.{◌≡◌, ℕ, ◌+◌, ◌*◌, ◌%◌, Bool, true, false, ◌&&◌, List, [], ◌∷◌, refl}
use Rattle.std.specs.List.{fold}
use Rattle.rules.specs.Words.{every}
use Rattle.digits.specs.Digits.{decimal_from}

pub decimal_folded : (n : ℕ) (l : List ℕ) → fold (λ n b. n % 1000000000 * 10 + b % 16) n l ≡ decimal_from n l
unfolding decimal_from
decimal_folded n [] = refl
decimal_folded n (b ∷ bs) = decimal_folded (n % 1000000000 * 10 + b % 16) bs

module _ (p : ℕ → Bool) where
  failed : (l : List ℕ) → fold (λ ok b. ok && p b) false l ≡ false
  failed [] = refl
  failed (b ∷ bs) = failed bs

  pub every_folded : (l : List ℕ) → fold (λ ok b. ok && p b) true l ≡ every p l
  unfolding every
  every_folded [] = refl
  every_folded (b ∷ bs) = go (p b) refl (every_folded bs)
    where
      go : (x : Bool) → p b ≡ x → fold (λ ok b. ok && p b) true bs ≡ every p bs → fold (λ ok b. ok && p b) (p b) bs ≡ (p b && every p bs)
      go true e k = rw e k
      go false e k = rw e (failed bs)
