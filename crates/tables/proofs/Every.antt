-- Whether every element of a slice passes a test, as `all` answers it, and a fold that goes to its end; and whether every number below a bound does.
use Rattle.std.proofs.Common.{◌≡◌, ℕ, suc, ◌<◌, Bool, true, false, ◌&&◌, List, [], ◌∷◌, length, get_or, refl, sym, ◌∙◌, arith, true≢false}
use Rattle.std.specs.Bool.{MatchBool}
use Rattle.std.specs.List.{AllWithin, HoldsAt, FoldsTo, fold, range_with_len}
use Rattle.std.specs.Iterator.{Drains}
use Rattle.std.specs.Fn.{Called}
use Rattle.std.specs.declared.ops.Range.{Range}
use Rattle.std.proofs.lemmas.Iterator.{YieldsList-from_range}
use Rattle.std.proofs.lemmas.Iterator.Consumers.{fold_from_yields_List}
use Rattle.std.proofs.lemmas.List.FromFn.{length-range_with_len, get_or-range_with_len}
use Rattle.std.proofs.iter.Yields.{nat_range_steps}
use denote.Param.Members.{Mut}
use Rattle.rules.specs.Words.{every, below}
use Rattle.rules.proofs.Folds.{fold_up}
use Rattle.rules.proofs.Lists.{every_cons, every_in}

module _ {X : Type 0} (p : X → Bool) where
  every_all : (xs : List X) → AllWithin (λ x. p x ≡ true) xs 0 (length xs) → every p xs ≡ true
  unfolding every
  every_all [] h = refl
  every_all (x ∷ xs) h = every_cons p x xs (h 0 x (omega arith) (omega arith)) (every_all xs (λ k d l m. h (suc k) d (omega arith) (omega arith)))

  pub every_from_all : (r : Bool) (xs : List X) → MatchBool r (AllWithin (λ x. p x ≡ true) xs 0 (length xs)) ((k : ℕ) × (k < length xs) × HoldsAt (λ x. p x ≡ false) xs k)
      → r ≡ every p xs
  every_from_all true xs h = sym (every_all xs h)
  every_from_all false [] (k, l, h) = absurd (omega arith)
  every_from_all false (x ∷ xs) (k, l, h) = go (every p (x ∷ xs)) refl
    where
      go : (b : Bool) → every p (x ∷ xs) ≡ b → false ≡ every p (x ∷ xs)
      go true e = absurd (true≢false (sym (every_in p (x ∷ xs) k x e l) ∙ h x))
      go false e = sym e

module _ {X : Type 0} (p : X → Bool) where
  failed : (xs : List X) → fold (λ ok x. ok && p x) false xs ≡ false
  failed [] = refl
  failed (x ∷ xs) = failed xs

  pub every_from_fold : (xs : List X) → fold (λ ok x. ok && p x) true xs ≡ every p xs
  unfolding every
  every_from_fold [] = refl
  every_from_fold (x ∷ xs) = go (p x) refl (every_from_fold xs)
    where
      go : (b : Bool) → p x ≡ b → fold (λ ok x. ok && p x) true xs ≡ every p xs → fold (λ ok x. ok && p x) (p x) xs ≡ (p x && every p xs)
      go true e k = rw e k
      go false e k = rw e (failed xs)

-- the fold goes to its end, whatever a number gives
pub below_from_fold : {F : Type 0} {g : Mut F (Bool × (ℕ × Unit {0})) Bool} {s : Range ℕ} {f : F} {r : Bool} (p : ℕ → Bool) (n : ℕ)
    → ((zs : List ℕ) × (q : F) × Drains nat_range_steps s zs × FoldsTo {P = F × Bool} (λ a x b. Called g a.0 (a.1, (x, tt)) b.1 b.0) (f, true) zs (q, r))
    → s ≡ record { start = 0; end = n } → ((a : Bool) (x : ℕ) (b : Bool) (q : F) → Called g f (a, (x, tt)) b q → (q ≡ f) × (b ≡ (a && p x))) → r ≡ below n p
unfolding below
below_from_fold {g = g} {r = r} p n ran is step =
    fold_up (λ ok i. ok && p i) (λ m. below m p) 0 n (range_with_len 0 n)
    (fold_from_yields_List g (λ ok i. ok && p i) true r ran (YieldsList-from_range 0 n n is (omega arith)) step)
    (length-range_with_len 0 n) refl (λ i l. let at : get_or (range_with_len 0 n) i 0 ≡ i = get_or-range_with_len 0 n i 0 l ∙ omega arith in rw at refl)
