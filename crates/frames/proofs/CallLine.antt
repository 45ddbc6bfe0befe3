-- Laws of a call line at a place: its digits in two parts, and the tests that the code makes.
use Rattle.std.proofs.Common.{ℕ, zero, suc, ◌+◌, ◌<◌, ◌≤◌, ◌≡◌, refl, sym, ◌∙◌, Bool, true, false, ◌&&◌, List, [], ◌∷◌, Some, None, arith, le_of_suc-le-suc, leb, length, take, drop, get_or, length-drop, take_all}
use mathlib.Core.Bool.{and_assoc}
use borrow.Author.Tests.{eq-eqb, ne_eqb, le-leb, lt-leb, leb-true}
use Rattle.rules.specs.Words.{every}
use Rattle.rules.proofs.Bools.{and_left}
use Rattle.digits.specs.Digits.{is_digit}
use Rattle.lines.specs.Ends.{line_feed, part}
use Rattle.frames.specs.Calls.{call_length, call_in}
use Rattle.frames.specs.CallLine.{call_line_at, request_at}
use Rattle.rules.specs.declared.Call.{Call}

-- ---- a line's characters in two parts

module _ (p : ℕ → Bool) where
  -- what holds of all holds of the first
  every_front : (n : ℕ) (l : List ℕ) → (every p (take n l) && every p l) ≡ every p l
  unfolding every
  every_front zero l = refl
  every_front (suc n) [] = refl
  every_front (suc n) (x ∷ xs) = go (p x) refl (every_front n xs)
    where
      go : (b : Bool) → p x ≡ b → (every p (take n xs) && every p xs) ≡ every p xs
          → ((p x && every p (take n xs)) && (p x && every p xs)) ≡ (p x && every p xs)
      go true e ih = rw e ih
      go false e ih = rw e refl

  every_parts : (m n : ℕ) (l : List ℕ) → m ≤ n → (every p (take n l) && every p (drop m l)) ≡ every p l
  unfolding every
  every_parts zero n l h = every_front n l
  every_parts (suc m) zero l h = absurd (omega arith)
  every_parts (suc m) (suc n) [] h = refl
  every_parts (suc m) (suc n) (x ∷ xs) h = rw (and_assoc, every_parts m n xs (le_of_suc-le-suc h))

  pub every_halves : (front back : Bool) (l : List ℕ) → front ≡ every p (take 16 (drop 0 l)) → back ≡ every p (take 16 (drop 12 l)) → length l ≡ call_length
      → (front && back) ≡ every p l
  every_halves front back l f b h =
      let rest : take 16 (drop 12 l) ≡ drop 12 l = take_all 16 (drop 12 l) (rw length-drop (omega arith)) in
      rw (f, b, rest) (every_parts 12 16 l (omega arith))

-- ---- the test that the code makes

module _ (input : List ℕ) (at : ℕ) where
  pub call_line_short : length input < at + suc call_length → false ≡ call_line_at input at
  unfolding call_line_at
  call_line_short h = rw (lt-leb (at + suc call_length) (length input) h)

  module _ (h : at + suc call_length ≤ length input) where
    pub call_line_other : (get_or input (at + call_length) 0 ≡ line_feed → ⊥) → false ≡ call_line_at input at
    unfolding call_line_at
    call_line_other n = rw (le-leb (at + suc call_length) (length input) h, ne_eqb (get_or input (at + call_length) 0) line_feed n)

    pub call_line_ended : (r : Bool) → get_or input (at + call_length) 0 ≡ line_feed → r ≡ every is_digit (part at (at + call_length) input) → r ≡ call_line_at input at
    unfolding call_line_at
    call_line_ended r e k = rw (le-leb (at + suc call_length) (length input) h, eq-eqb (get_or input (at + call_length) 0) line_feed e) k

  -- ---- what is asked for there

  module _ (r : Bool) (e : r ≡ call_line_at input at) where
    pub request_none : r ≡ false → None ≡ request_at input at
    unfolding request_at
    request_none n = simp (← e, n)

    pub request_some : (c : Call) → r ≡ true → c ≡ call_in (part at (at + call_length) input) → Some c ≡ request_at input at
    unfolding request_at
    request_some c n k = simp (← e, n, k)

    pub request_room : r ≡ true → at + suc call_length ≤ length input
    unfolding call_line_at
    request_room n = leb-true (at + suc call_length) (length input) (and_left (leb (at + suc call_length) (length input)) _ (sym e ∙ n))
