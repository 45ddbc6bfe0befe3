-- Laws of the flat store: a queue's places read, laid anew, and written as the code writes them.
use Prim.Native.Nat.{ℕ, zero, suc, ◌+◌, ◌-◌, ◌<◌, ◌≤◌}
use mathlib.Core.Path.{◌≡◌, refl, sym, ap, ◌∙◌}
use mathlib.Core.Logic.{◌≢◌}
use mathlib.Core.Bool.{Bool, true, false}
use mathlib.Core.List.{List, [], ◌∷◌, ◌++◌, append_assoc}
use native.Mathlib.Omega.{arith}
use native.Mathlib.Numerals.{add-one}
use native.Mathlib.Nat.{zero-add, suc-add, add-suc}
use lib.ListN.{get_or, set, take, drop, length, replicate, length-append, length-drop, take-append-drop}
use lib.Seq.{slice, length-slice, length-take-le, take-nil, drop-nil, take-add, take-take, take_at, take-append-le, take-append_seam, drop_at, drop-drop, drop-append-le, drop-append_seam, get_or-take, get_or-drop, set_split}
use lib.Dec.{ltb}
use borrow.Author.Tests.{eqb-true, ltb-true, ltb-false}
use Rattle.rules.specs.Numbers.{places}
use Rattle.rules.specs.Words.{is_zero, every, padded}
use Rattle.rules.specs.Queues.{first_place, front, behind, laid, without, closed}
use Rattle.rules.proofs.Lists.{every_head, every_tail, every_append, every_take, every_drop, every_replicate, length_padded, length_without}

-- ---- parts of a list

-- the n entries from a on
pub slice_is {ℓ} : {A : Type ℓ} (a n : ℕ) (l : List A) → slice a (a + n) l ≡ take n (drop a l)
slice_is zero n l = rw zero-add
slice_is (suc a) n [] = simp (take-nil, drop-nil)
slice_is (suc a) n (x ∷ l) = rw suc-add (slice_is a n l)

-- all entries from a on: those up to b, and the rest
slice_rest {ℓ} : {A : Type ℓ} (a b : ℕ) (l : List A) → a ≤ b → b ≤ length l → drop a l ≡ slice a b l ++ drop b l
slice_rest a b l h k = ap (drop a) (sym (take-append-drop b l)) ∙ drop-append-le a (take b l) (drop b l) (rw (length-take-le b l k) h)

zeros_are : (l : List ℕ) → every is_zero l ≡ true → l ≡ replicate (length l) 0
zeros_are [] h = refl
zeros_are (x ∷ l) h = cc (eqb-true x 0 (every_head is_zero x l h), zeros_are l (every_tail is_zero x l h))

-- ---- a queue's places

pub front_length : (q n : ℕ) (l : List ℕ) → n ≤ places → first_place q + places ≤ length l → length (front q n l) ≡ n
unfolding front
front_length q n l fits room = length-slice (first_place q) (first_place q + n) l (omega arith) ∙ omega arith

module _ (q n : ℕ) (l : List ℕ) where
  pub front_at : (i : ℕ) → i < n → get_or (front q n l) i 0 ≡ get_or l (first_place q + i) 0
  unfolding front
  front_at i h = rw (slice_is, get_or-take, get_or-drop)

  -- what stands up to n, and from one behind i
  front_head : take (first_place q + n) l ≡ take (first_place q) l ++ front q n l
  unfolding front
  front_head = rw slice_is (take-add (first_place q) n l)

  front_tail : (i : ℕ) → slice (suc (first_place q + i)) (first_place q + n) l ≡ drop (suc i) (front q n l)
  unfolding front
  front_tail i = rw (drop-drop, add-suc)

  -- fewer of its places, and those behind them
  front_part : (m : ℕ) → n ≤ m → front q n l ≡ take n (front q m l)
  unfolding front
  front_part m h = simp (slice_is, take-take n m (drop (first_place q) l) h)

  behind_part : behind q n l ≡ drop n (front q places l)
  unfolding front behind
  behind_part = rw drop-drop

-- ---- a queue's places laid anew

-- what holds of each entry, and of the 0 behind the list
pub every_laid : (p : ℕ → Bool) (q : ℕ) (xs l : List ℕ) → p 0 ≡ true → every p l ≡ true → every p xs ≡ true → every p (laid q xs l) ≡ true
unfolding laid padded
every_laid p q xs l z h k = search (every_append, every_take, every_drop, every_replicate)

module _ (q : ℕ) (xs l : List ℕ) (fits : length xs ≤ places) (room : first_place q + places ≤ length l) where
  head_length : length (take (first_place q) l) ≡ first_place q
  head_length = length-take-le (first_place q) l (omega arith)

  own_length : length (padded places 0 xs) ≡ places
  own_length = length_padded places 0 xs fits

  pub laid_length : length (laid q xs l) ≡ length l
  unfolding laid
  laid_length = simp (length-append, head_length, own_length, length-drop) (omega arith)

  -- its own places, and what stands before and after them
  laid_from : drop (first_place q) (laid q xs l) ≡ padded places 0 xs ++ drop (first_place q + places) l
  unfolding laid
  laid_from = drop_at (take (first_place q) l) _ (first_place q) head_length

  laid_own : front q places (laid q xs l) ≡ padded places 0 xs
  unfolding front
  laid_own = rw (slice_is, laid_from) (take_at (padded places 0 xs) _ places own_length)

  laid_before : (n : ℕ) → n ≤ first_place q → take n (laid q xs l) ≡ take n l
  unfolding laid
  laid_before n h = take-append-le n (take (first_place q) l) _ (rw head_length h) ∙ take-take n (first_place q) l h

  laid_rest : drop (first_place q + places) (laid q xs l) ≡ drop (first_place q + places) l
  laid_rest = rw (← drop-drop places (first_place q) (laid q xs l), laid_from) (drop_at (padded places 0 xs) _ places own_length)

  laid_after : (n : ℕ) → first_place q + places ≤ n → drop n (laid q xs l) ≡ drop n l
  laid_after n h =
      let e : first_place q + places + (n - (first_place q + places)) ≡ n = omega arith in
      simp (drop-drop, e) at (ap (drop (n - (first_place q + places))) laid_rest)

  pub front_laid_same : front q (length xs) (laid q xs l) ≡ xs
  unfolding padded
  front_laid_same = rw (front_part q (length xs) (laid q xs l) places fits, laid_own) (take-append_seam xs (replicate (places - length xs) 0))

  pub behind_laid_same : every is_zero (behind q (length xs) (laid q xs l)) ≡ true
  unfolding padded
  behind_laid_same = rw (behind_part, laid_own, drop-append_seam) (every_replicate is_zero (places - length xs) 0 refl)

  -- the places of another queue
  module _ (p : ℕ) (other : p ≢ q) where
    laid_other : front p places (laid q xs l) ≡ front p places l
    unfolding front
    laid_other = go (ltb p q) refl
      where
        go : (b : Bool) → ltb p q ≡ b → front p places (laid q xs l) ≡ front p places l
        go true e = let h : p < q = ltb-true p q e in rw (laid_before (first_place p + places) (omega arith))
        go false e = let h : q ≤ p = ltb-false p q e in simp (slice_is, laid_after (first_place p) (omega arith))

    pub front_laid_other : (n : ℕ) → n ≤ places → front p n (laid q xs l) ≡ front p n l
    front_laid_other n h = rw (front_part p n (laid q xs l) places h, laid_other, ← front_part)

    pub behind_laid_other : (n : ℕ) → behind p n (laid q xs l) ≡ behind p n l
    behind_laid_other n = simp (behind_part, laid_other)

-- ---- as the code writes it

module _ (q n : ℕ) (l : List ℕ) (room : first_place q + places ≤ length l) (free : every is_zero (behind q n l) ≡ true) where
  free_is : n ≤ places → drop (first_place q + n) l ≡ replicate (places - n) 0 ++ drop (first_place q + places) l
  unfolding behind
  free_is h =
      let e : length (behind q n l) ≡ places - n = length-slice (first_place q + n) (first_place q + places) l room ∙ omega arith in
      rw (← e, ← zeros_are (behind q n l) free) (slice_rest (first_place q + n) (first_place q + places) l (omega arith) room)

  free_next : n < places → drop (suc (first_place q + n)) l ≡ replicate (places - suc n) 0 ++ drop (first_place q + places) l
  free_next h =
      let d : places - n ≡ suc (places - suc n) = omega arith in
      simp (drop-drop, add-one, d) at (ap (drop 1) (free_is (omega arith)))

  -- SEND: one store at the first free place
  pub store_send : (e : ℕ) → n < places → set l (first_place q + n) e ≡ laid q (front q n l ++ (e ∷ [])) l
  unfolding laid padded
  store_send e h =
      let f : length (front q n l) ≡ n = front_length q n l (omega arith) room in
      simp (set_split l (first_place q + n) e (omega arith), front_head, free_next h, length-append, f, add-one, append_assoc)

  -- RETRIEVE: the gap closed
  pub store_take : (i : ℕ) → i < n → n ≤ places → closed (first_place q + i) (first_place q + n) l ≡ laid q (without i (front q n l)) l
  unfolding laid padded without
  store_take i h k =
      let f : length (front q n l) ≡ n = front_length q n l k room in
      let a : length (without i (front q n l)) ≡ n - 1 = simp f at (length_without i (front q n l) (rw f h)) in
      let b : places - (n - 1) ≡ suc (places - n) = omega arith in
      simp (a, front_head q i l, front_part q i l n (omega arith), front_tail, free_is k, b, append_assoc)
