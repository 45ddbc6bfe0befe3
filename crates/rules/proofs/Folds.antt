-- Folds over arrays whose value is known after each number of entries, over two arrays side by side too; and whether all numbers below a bound pass.
use Rattle.std.proofs.Common.{ℕ, zero, suc, ◌+◌, ◌<◌, ◌≡◌, List, [], ◌∷◌, length, get_or, refl, ap, ◌∙◌, sym, arith, add-zero, Option, Bool, true, false, MatchBool, ◌≤◌, ◌&&◌}
use Rattle.std.specs.List.{fold, zip, FoldsTo, range_with_len, enumerate_from, AllWithin, HoldsAt}
use Rattle.std.specs.Iterator.{YieldsThen, Drains}
use Rattle.std.specs.Option.{MatchOption}
use Rattle.std.specs.Fn.{Called}
use Rattle.std.specs.declared.ops.Range.{Range}
use Rattle.std.proofs.lemmas.Iterator.{cases_from_all, YieldsList-from_range, YieldsList}
use Rattle.std.proofs.lemmas.List.FromFn.{length-range_with_len, get_or-range_with_len, get_or-enumerate_from, length-enumerate_from}
use Rattle.std.proofs.lemmas.Bool.{false≢true}
use Rattle.std.proofs.iter.Yields.{nat_range_steps}
use denote.Param.Members.{Mut}
use Rattle.rules.specs.Words.{below}
use Rattle.rules.proofs.Counts.{below_at, below_all}
use Rattle.std.proofs.lemmas.Iterator.Consumers.{fold_from_yields_List}

module _ {A B : Type 0} (f : B → A → B) (up : ℕ → B) (d : A) where
  fold_from : (k : ℕ) {a : B} (xs : List A) → a ≡ up k → ((i : ℕ) → i < length xs → f (up (k + i)) (get_or xs i d) ≡ up (suc (k + i)))
      → fold f a xs ≡ up (k + length xs)
  fold_from k [] e h = rw add-zero e
  fold_from k {a} (x ∷ xs) e h =
      let here : f (up k) x ≡ up (suc k) = rw add-zero at (h 0 (omega arith)) in
      let shift : suc k + length xs ≡ k + suc (length xs) = omega arith in
      fold_from (suc k) xs (rw e here) (λ i l. rw (move i) (h (suc i) (omega arith))) ∙ ap up shift
    where
      move : (i : ℕ) → suc k + i ≡ k + suc i
      move i = omega arith

  -- up says the value after so many entries
  pub fold_up : (n : ℕ) {a r : B} (xs : List A) → r ≡ fold f a xs → length xs ≡ n → a ≡ up 0 → ((i : ℕ) → i < n → f (up i) (get_or xs i d) ≡ up (suc i)) → r ≡ up n
  fold_up n xs is long e h = is ∙ fold_from 0 xs e (λ i l. rw (none i) (h i (omega arith))) ∙ ap up (none (length xs) ∙ long)
    where
      none : (i : ℕ) → 0 + i ≡ i
      none i = omega arith

module _ {A C : Type 0} (d : A) (e : C) where
  pub zip_at : (xs : List A) (ys : List C) (i : ℕ) → i < length xs → i < length ys → get_or (zip xs ys) i (d, e) ≡ (get_or xs i d, get_or ys i e)
  zip_at [] ys i l m = absurd (omega arith)
  zip_at (x ∷ xs) [] i l m = absurd (omega arith)
  zip_at (x ∷ xs) (y ∷ ys) zero l m = refl
  zip_at (x ∷ xs) (y ∷ ys) (suc i) l m = zip_at xs ys i (omega arith) (omega arith)

  zip_below : (xs : List A) (ys : List C) (i : ℕ) → i < length xs → i < length ys → i < length (zip xs ys)
  zip_below [] ys i l m = absurd (omega arith)
  zip_below (x ∷ xs) [] i l m = absurd (omega arith)
  zip_below (x ∷ xs) (y ∷ ys) zero l m = omega arith
  zip_below (x ∷ xs) (y ∷ ys) (suc i) l m = let rest = zip_below xs ys i (omega arith) (omega arith) in omega arith

  -- with its number
  pub numbered_at : (xs : List A) (ys : List C) (i : ℕ) → i < length xs → i < length ys
      → get_or (enumerate_from 0 (zip xs ys)) i (0, (d, e)) ≡ (i, (get_or xs i d, get_or ys i e))
  numbered_at xs ys i l m =
      get_or-enumerate_from 0 (zip xs ys) i (0, (d, e)) (zip_below xs ys i l m) ∙ rw (zip_at xs ys i l m, none i)
    where
      none : (i : ℕ) → 0 + i ≡ i
      none i = omega arith

  pub zip_length : (n : ℕ) (xs : List A) (ys : List C) → length xs ≡ n → length ys ≡ n → length (zip xs ys) ≡ n
  zip_length n [] ys k l = k
  zip_length n (x ∷ xs) [] k l = l
  zip_length zero (x ∷ xs) (y ∷ ys) k l = absurd (omega arith)
  zip_length (suc n) (x ∷ xs) (y ∷ ys) k l = ap suc (zip_length n xs ys (omega arith) (omega arith))

  -- what a turn of a loop over both has
  pub zip_turn : (xs : List A) (ys : List C) (i : ℕ) {x : A} {y : C} → (i < length (zip xs ys)) × ((x, y) ≡ get_or (zip xs ys) i (x, y)) → (x ≡ get_or xs i d) × (y ≡ get_or ys i e)
  zip_turn [] ys i h = absurd (omega (arith, h.0))
  zip_turn (x ∷ xs) [] i h = absurd (omega (arith, h.0))
  zip_turn (x ∷ xs) (y ∷ ys) zero h = (ap (λ p. p.0) h.1, ap (λ p. p.1) h.1)
  zip_turn (x ∷ xs) (y ∷ ys) (suc i) h = zip_turn xs ys i (omega (arith, h.0), h.1)

-- the first that fails settles it
below_out : (p : ℕ → Bool) (n i : ℕ) → i < n → p i ≡ false → false ≡ below n p
below_out p n i l f = go (below n p) refl
  where
    go : (b : Bool) → below n p ≡ b → false ≡ below n p
    go true e = absurd (false≢true (sym f ∙ below_at p n i e l))
    go false e = sym e

-- what `all` over the numbers below n gives
pub below_from_all : {F : Type 0} {g : Mut F (ℕ × Unit {0}) Bool} {s u : Range ℕ} {f : F} {r : Bool} (p : ℕ → Bool) (n : ℕ)
    → (xs : List ℕ) × (o : Option ℕ) × (j : F) × YieldsThen nat_range_steps s xs o u × FoldsTo (λ p x q. Called g p (x, tt) true q) f xs j × MatchOption o (r ≡ true) (λ x. (r ≡ false) × ((h : F) × Called g j (x, tt) false h))
    → s ≡ record { start = 0; end = n } → ((x : ℕ) (b : Bool) (q : F) → Called g f (x, tt) b q → (q ≡ f) × (b ≡ p x)) → r ≡ below n p
below_from_all {u} {f} {r} p n ran is step =
    by r (cases_from_all u f r (λ x. p x ≡ true) (λ x. p x ≡ false) ran (YieldsList-from_range 0 n n is (omega arith)) (λ x q h. ((step x true q h).0, sym (step x true q h).1)) (λ x q h. sym (step x false q h).1))
  where
    numbers : List ℕ
    numbers = range_with_len 0 n

    long : length numbers ≡ n
    long = length-range_with_len 0 n

    at : (k : ℕ) → k < n → get_or numbers k 0 ≡ k
    at k l = get_or-range_with_len 0 n k 0 l ∙ omega arith

    by : (b : Bool) → MatchBool b (AllWithin (λ x. p x ≡ true) numbers 0 (length numbers)) ((k : ℕ) × (k < length numbers) × HoldsAt (λ x. p x ≡ false) numbers k) → b ≡ below n p
    by true h = sym (below_all p n (λ k l. rw (at k l) at (h k 0 (omega arith) (omega (arith, long)))))
    by false h = let l : h.0 < n = omega (arith, long, h.1) in below_out p n h.0 l (rw (at h.0 l) at (h.2 0))

-- of two columns of numbers
module _ {B : Type 0} (f : B → ℕ × ℕ → B) (up : ℕ → B) (n : ℕ) (xs ys : List ℕ) (long : length xs ≡ n) (wide : length ys ≡ n) where
  pub fold_zip : {a r : B} → r ≡ fold f a (zip xs ys) → a ≡ up 0 → ((i : ℕ) → i < n → f (up i) (get_or xs i 0, get_or ys i 0) ≡ up (suc i)) → r ≡ up n
  fold_zip is e h =
      fold_up f up (0, 0) n (zip xs ys) is (zip_length 0 0 n xs ys long wide) e (λ i l. rw (zip_at 0 0 xs ys i (omega arith) (omega arith)) (h i l))

-- a test of every pair, without a way out
module _ {S A F : Type 0} {steps : S → Option A → S → Type 0} {v : A → ℕ × ℕ} {s : S} (g : Mut F (Bool × (A × Unit {0})) Bool) {f : F} (p : ℕ → ℕ → Bool) (n : ℕ)
    (xs ys : List ℕ) (long : length xs ≡ n) (wide : length ys ≡ n) {r : Bool} where
  pub below_zip : ((zs : List A) × (q : F) × Drains steps s zs × FoldsTo {P = F × Bool} (λ a x b. Called g a.0 (a.1, (x, tt)) b.1 b.0) (f, true) zs (q, r))
      → YieldsList steps v s (zip xs ys) → ((a : Bool) (x : A) (b : Bool) (q : F) → Called g f (a, (x, tt)) b q → (q ≡ f) × (b ≡ (a && p (v x).0 (v x).1)))
      → r ≡ below n (λ j. p (get_or xs j 0) (get_or ys j 0))
  unfolding below
  below_zip ran gives step =
      fold_zip (λ ok z. ok && p z.0 z.1) (λ m. below m (λ j. p (get_or xs j 0) (get_or ys j 0))) n xs ys long wide
      (fold_from_yields_List g (λ ok z. ok && p z.0 z.1) true r ran gives step) refl (λ i l. refl)

-- over the pairs with their numbers
module _ {B : Type 0} (f : B → ℕ × (ℕ × ℕ) → B) (up : ℕ → B) (n : ℕ) (xs ys : List ℕ) (long : length xs ≡ n) (wide : length ys ≡ n) where
  pub fold_numbered : {a r : B} → r ≡ fold f a (enumerate_from 0 (zip xs ys)) → a ≡ up 0
      → ((i : ℕ) → i < n → f (up i) (i, (get_or xs i 0, get_or ys i 0)) ≡ up (suc i)) → r ≡ up n
  fold_numbered is e h =
      let many : length (enumerate_from 0 (zip xs ys)) ≡ n = length-enumerate_from 0 (zip xs ys) ∙ zip_length 0 0 n xs ys long wide in
      fold_up f up (0, (0, 0)) n (enumerate_from 0 (zip xs ys)) is many e (λ i l. rw (at i l) (h i l))
    where
      at : (i : ℕ) → i < n → get_or (enumerate_from 0 (zip xs ys)) i (0, (0, 0)) ≡ (i, (get_or xs i 0, get_or ys i 0))
      at i l =
          let none : 0 + i ≡ i = omega arith in
          let pairs = zip_length 0 0 n xs ys long wide in
          get_or-enumerate_from 0 (zip xs ys) i (0, (0, 0)) (omega arith)
          ∙ rw (none, zip_at 0 0 xs ys i (omega arith) (omega arith)) refl
