-- Laws of lists: every entry passes, one entry is changed, the list is filled up, one entry is taken out.
use Prim.Native.Nat.{ℕ, zero, suc, ◌+◌, ◌-◌, ◌<◌, ◌≤◌}
use mathlib.Core.Logic.{◌≢◌}
use mathlib.Core.Path.{◌≡◌, refl, sym, ◌∙◌, ap}
use mathlib.Core.Bool.{Bool, true, false, ◌&&◌, and_assoc, and-true, true≢false}
use mathlib.Core.List.{List, [], ◌∷◌, ◌++◌, map}
use native.Mathlib.Omega.{arith}
use native.Mathlib.Nat.{le_of_suc-le-suc}
use native.Mathlib.Numerals.{add-one}
use lib.ListN.{get_or, set, take, drop, length, length-append, length-drop, length-replicate, replicate, get_or-append}
use lib.Seq.{take-suc, take_all, length-take-le, get_or-append-add}
use Rattle.rules.specs.Words.{every, altered, padded}
use Rattle.rules.specs.Queues.{without}
use Rattle.rules.proofs.Bools.{and_left, and_right, both}

-- ---- every entry passes

module _ {ℓ} {A : Type ℓ} (p : A → Bool) where
  pub every_head : (x : A) (xs : List A) → every p (x ∷ xs) ≡ true → p x ≡ true
  unfolding every
  every_head x xs h = and_left (p x) (every p xs) h

  pub every_tail : (x : A) (xs : List A) → every p (x ∷ xs) ≡ true → every p xs ≡ true
  unfolding every
  every_tail x xs h = and_right (p x) (every p xs) h

  pub every_cons : (x : A) (xs : List A) → p x ≡ true → every p xs ≡ true → every p (x ∷ xs) ≡ true
  unfolding every
  every_cons x xs h k = both h k

  pub every_nil : every p [] ≡ true
  unfolding every
  every_nil = refl

  -- an entry, and what stands for one past the end
  pub every_at : (xs : List A) (i : ℕ) (d : A) → every p xs ≡ true → p d ≡ true → p (get_or xs i d) ≡ true
  every_at [] i d h k = k
  every_at (x ∷ xs) zero d h k = every_head x xs h
  every_at (x ∷ xs) (suc i) d h k = every_at xs i d (every_tail x xs h) k

  -- an entry of the list
  pub every_in : (xs : List A) (i : ℕ) (d : A) → every p xs ≡ true → i < length xs → p (get_or xs i d) ≡ true
  every_in [] i d h k = absurd (omega arith)
  every_in (x ∷ xs) zero d h k = every_head x xs h
  every_in (x ∷ xs) (suc i) d h k = every_in xs i d (every_tail x xs h) (le_of_suc-le-suc k)

  pub every_append : (xs ys : List A) → every p xs ≡ true → every p ys ≡ true → every p (xs ++ ys) ≡ true
  every_append [] ys h k = k
  every_append (x ∷ xs) ys h k = every_cons x (xs ++ ys) (every_head x xs h) (every_append xs ys (every_tail x xs h) k)

  -- the same as one equation
  pub every_both : (xs ys : List A) → every p (xs ++ ys) ≡ (every p xs && every p ys)
  unfolding every
  every_both [] ys = refl
  every_both (x ∷ xs) ys = ap (λ b. p x && b) (every_both xs ys) ∙ sym (and_assoc (p x) (every p xs) (every p ys))

  pub every_take : (n : ℕ) (xs : List A) → every p xs ≡ true → every p (take n xs) ≡ true
  every_take zero xs h = every_nil
  every_take (suc n) [] h = every_nil
  every_take (suc n) (x ∷ xs) h = every_cons x (take n xs) (every_head x xs h) (every_take n xs (every_tail x xs h))

  pub every_drop : (n : ℕ) (xs : List A) → every p xs ≡ true → every p (drop n xs) ≡ true
  every_drop zero xs h = h
  every_drop (suc n) [] h = h
  every_drop (suc n) (x ∷ xs) h = every_drop n xs (every_tail x xs h)

  pub every_replicate : (n : ℕ) (x : A) → p x ≡ true → every p (replicate n x) ≡ true
  every_replicate zero x h = every_nil
  every_replicate (suc n) x h = every_cons x (replicate n x) h (every_replicate n x h)

-- ---- as loops need it: the test of every entry passed, a turn, a way out and the end

module _ {ℓ} {A : Type ℓ} (p : A → Bool) (i : ℕ) (l : List A) where
  pub every_again : (d : A) {ok here : Bool} → ok ≡ every p (take i l) → here ≡ p (get_or l i d) → i < length l
      → (ok && here) ≡ every p (take (i + 1) l)
  unfolding every
  every_again d k e h = rw (k, e, add-one, take-suc l i d h, every_both, and-true)

  pub every_out : (d : A) {here : Bool} → here ≡ p (get_or l i d) → i < length l → here ≡ false → false ≡ every p l
  every_out d e h f = go (every p l) refl
    where
      go : (b : Bool) → every p l ≡ b → false ≡ every p l
      go true k = absurd (true≢false (sym (every_in p l i d k h) ∙ sym e ∙ f))
      go false k = sym k

  pub every_end : {ok : Bool} → ok ≡ every p (take i l) → length l ≤ i → ok ≡ every p l
  every_end k h = k ∙ ap (every p) (take_all i l h)

-- ---- one entry changed

module _ {ℓ} {A : Type ℓ} where
  pub length_altered : (f : A → A) (i : ℕ) (xs : List A) → length (altered i f xs) ≡ length xs
  length_altered f i [] = refl
  length_altered f zero (x ∷ xs) = refl
  length_altered f (suc i) (x ∷ xs) = ap suc (length_altered f i xs)

  -- the code's store
  pub altered_set : (f : A → A) (i : ℕ) (d : A) (xs : List A) → altered i f xs ≡ set xs i (f (get_or xs i d))
  altered_set f i d [] = refl
  altered_set f zero d (x ∷ xs) = refl
  altered_set f (suc i) d (x ∷ xs) = ap (λ ys. x ∷ ys) (altered_set f i d xs)

  -- the entry itself, and the others
  pub altered_here : (f : A → A) (i : ℕ) (d : A) (xs : List A) → i < length xs → get_or (altered i f xs) i d ≡ f (get_or xs i d)
  altered_here f i d [] h = absurd (omega arith)
  altered_here f zero d (x ∷ xs) h = refl
  altered_here f (suc i) d (x ∷ xs) h = altered_here f i d xs (le_of_suc-le-suc h)

  pub altered_other : (f : A → A) (i j : ℕ) (d : A) (xs : List A) → i ≢ j → get_or (altered i f xs) j d ≡ get_or xs j d
  altered_other f i j d [] n = refl
  altered_other f zero zero d (x ∷ xs) n = absurd (n refl)
  altered_other f zero (suc j) d (x ∷ xs) n = refl
  altered_other f (suc i) zero d (x ∷ xs) n = refl
  altered_other f (suc i) (suc j) d (x ∷ xs) n = altered_other f i j d xs (λ e. n (ap suc e))

  -- two changes that agree on the entry, and one that changes nothing
  pub altered_same : (f g : A → A) (i : ℕ) (d : A) (xs : List A) → f (get_or xs i d) ≡ g (get_or xs i d) → altered i f xs ≡ altered i g xs
  altered_same f g i d [] h = refl
  altered_same f g zero d (x ∷ xs) h = ap (λ y. y ∷ xs) h
  altered_same f g (suc i) d (x ∷ xs) h = ap (λ ys. x ∷ ys) (altered_same f g i d xs h)

  pub altered_id : (i : ℕ) (xs : List A) → altered i (λ x. x) xs ≡ xs
  altered_id i [] = refl
  altered_id zero (x ∷ xs) = refl
  altered_id (suc i) (x ∷ xs) = ap (λ ys. x ∷ ys) (altered_id i xs)

  -- changes that change places at one entry change places at any two
  pub altered_comm : (f g : A → A) → ((x : A) → f (g x) ≡ g (f x)) → (i j : ℕ) (xs : List A)
      → altered i f (altered j g xs) ≡ altered j g (altered i f xs)
  altered_comm f g k i j [] = refl
  altered_comm f g k zero zero (x ∷ xs) = ap (λ y. y ∷ xs) (k x)
  altered_comm f g k zero (suc j) (x ∷ xs) = refl
  altered_comm f g k (suc i) zero (x ∷ xs) = refl
  altered_comm f g k (suc i) (suc j) (x ∷ xs) = ap (λ ys. x ∷ ys) (altered_comm f g k i j xs)

  -- what f keeps at an entry it keeps at every entry of the list: a test, and a value
  pub altered_keeps : (p : A → Bool) (f : A → A) → ((x : A) → p x ≡ true → p (f x) ≡ true) → (i j : ℕ) (d : A) (xs : List A)
      → p (get_or xs j d) ≡ true → p (get_or (altered i f xs) j d) ≡ true
  altered_keeps p f k i j d [] h = h
  altered_keeps p f k zero zero d (x ∷ xs) h = k x h
  altered_keeps p f k zero (suc j) d (x ∷ xs) h = h
  altered_keeps p f k (suc i) zero d (x ∷ xs) h = h
  altered_keeps p f k (suc i) (suc j) d (x ∷ xs) h = altered_keeps p f k i j d xs h

  pub altered_leaves {κ} : {B : Type κ} (p : A → B) (f : A → A) → ((x : A) → p (f x) ≡ p x) → (i j : ℕ) (d : A) (xs : List A)
      → p (get_or (altered i f xs) j d) ≡ p (get_or xs j d)
  altered_leaves p f k i j d [] = refl
  altered_leaves p f k zero zero d (x ∷ xs) = k x
  altered_leaves p f k zero (suc j) d (x ∷ xs) = refl
  altered_leaves p f k (suc i) zero d (x ∷ xs) = refl
  altered_leaves p f k (suc i) (suc j) d (x ∷ xs) = altered_leaves p f k i j d xs

  -- ---- filled up

  pub length_padded : (room : ℕ) (filling : A) (xs : List A) → length xs ≤ room → length (padded room filling xs) ≡ room
  unfolding padded
  length_padded room filling xs h = simp (length-append, length-replicate) (omega arith)

  pub padded_at : (room : ℕ) (filling : A) (xs : List A) (i : ℕ) → i < length xs → get_or (padded room filling xs) i filling ≡ get_or xs i filling
  unfolding padded
  padded_at room filling xs i h = get_or-append xs (replicate (room - length xs) filling) filling i h

  pub padded_past : (room : ℕ) (filling : A) (xs : List A) (i : ℕ) → length xs ≤ i → get_or (padded room filling xs) i filling ≡ filling
  unfolding padded
  padded_past room filling xs i h =
      let n = room - length xs in
      let e : length xs + (i - length xs) ≡ i = omega arith in
      ap (λ j. get_or (xs ++ replicate n filling) j filling) (sym e)
      ∙ get_or-append-add xs (replicate n filling) (i - length xs) filling
      ∙ filling_at n (i - length xs)
    where
      filling_at : (n j : ℕ) → get_or (replicate n filling) j filling ≡ filling
      filling_at zero j = refl
      filling_at (suc n) zero = refl
      filling_at (suc n) (suc j) = filling_at n j

  -- ---- one entry taken out

  pub length_without : (i : ℕ) (xs : List A) → i < length xs → length (without i xs) ≡ length xs - 1
  unfolding without
  length_without i xs h = simp (length-append, length-take-le i xs (omega arith), length-drop) (omega arith)

-- ---- a function at every entry

module _ {ℓ κ} {A : Type ℓ} {B : Type κ} (f : A → B) where
  pub map_append : (xs ys : List A) → map f (xs ++ ys) ≡ map f xs ++ map f ys
  map_append [] ys = refl
  map_append (x ∷ xs) ys = ap (λ zs. f x ∷ zs) (map_append xs ys)

  pub map_take : (n : ℕ) (xs : List A) → map f (take n xs) ≡ take n (map f xs)
  map_take zero xs = refl
  map_take (suc n) [] = refl
  map_take (suc n) (x ∷ xs) = ap (λ zs. f x ∷ zs) (map_take n xs)

  pub map_drop : (n : ℕ) (xs : List A) → map f (drop n xs) ≡ drop n (map f xs)
  map_drop zero xs = refl
  map_drop (suc n) [] = refl
  map_drop (suc n) (x ∷ xs) = map_drop n xs

  pub map_without : (i : ℕ) (xs : List A) → map f (without i xs) ≡ without i (map f xs)
  unfolding without
  map_without i xs = simp (map_append, map_take, map_drop)
