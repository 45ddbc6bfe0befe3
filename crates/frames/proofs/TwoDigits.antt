-- Laws of the numbers in digits that stand side by side: a turn of the loop over them, and the fields that they make up.
use Rattle.std.proofs.Common.{ℕ, zero, suc, ◌+◌, ◌<◌, ◌≤◌, ◌≡◌, refl, ◌∙◌, List, [], ◌∷◌, arith, length, take, drop, get_or, drop-cons, get_or-take, get_or-drop, w32}
use denote.Param.Members.{Mut}
use Rattle.std.specs.Array.{IsFromFnResultFrom, IsFromFnResult}
use Rattle.std.specs.Fn.{Called}
use Rattle.std.specs.Int.{from_be_bytes}
use Rattle.rules.specs.declared.Call.{Call}
use Rattle.digits.specs.Digits.{value_from, field}
use Rattle.frames.specs.Calls.{call_length, call_in}
use Rattle.frames.specs.TwoDigits.{step_bytes, two_digits_at}

-- the first n of them stand in r
abbrev pub ReadTo : ℕ → List ℕ → List ℕ → Type 0
ReadTo n s r = (k : ℕ) → k < n → get_or r k 0 ≡ two_digits_at s k

-- an array made by a function of the place holds its values
module _ {F : Type 0} (g : Mut F (ℕ × Unit {0}) ℕ) (value : ℕ → ℕ) (f : F) (step : (i y : ℕ) (q : F) → Called g f (i, tt) y q → (q ≡ f) × (y ≡ value i)) where
  from_each : (ys : List ℕ) (k n : ℕ) (p : F) → p ≡ f → IsFromFnResultFrom g p ys k n → (i : ℕ) → i < n → get_or ys (k + i) 0 ≡ value (k + i)
  from_each ys k zero p e h i l = absurd (omega arith)
  from_each ys k (suc n) p e h zero l =
      let same : k + 0 ≡ k = omega arith in
      let called = step k h.1 h.0 (rw e at h.3) in
      rw same (h.2.1 0 ∙ called.1)
  from_each ys k (suc n) p e h (suc i) l =
      let move : k + suc i ≡ k + 1 + i = omega arith in
      let called = step k h.1 h.0 (rw e at h.3) in
      rw move (from_each ys (k + 1) n h.0 called.0 h.4 i (omega arith))

  pub made_by : (n : ℕ) (ys : List ℕ) → IsFromFnResult g f ys n → (i : ℕ) → i < n → get_or ys i 0 ≡ value i
  made_by n ys h i l = let none : 0 + i ≡ i = omega arith in rw none at (from_each ys 0 n f refl h.each i l)

-- ---- the fields

abbrev pub word : ℕ → ℕ → ℕ → ℕ → ℕ
word a b c d = from_be_bytes w32 (a ∷ b ∷ c ∷ d ∷ [])

abbrev pub call_of : ℕ → ℕ → ℕ → ℕ → ℕ → Call
call_of caller operation a b c = record { caller = caller; operation = operation; a = a; b = b; c = c }

module _ (l : List ℕ) where
  two_digits_field : (at : ℕ) → at + 2 ≤ length l → two_digits_at l at ≡ field 2 at l
  unfolding field value_from
  two_digits_field at h = rw (drop-cons l at 0 (omega arith), drop-cons l (suc at) 0 (omega arith)) (omega arith)

  word_field : (at : ℕ) → at + 8 ≤ length l
      → word (two_digits_at l at) (two_digits_at l (suc (suc at))) (two_digits_at l (suc (suc (suc (suc at)))))
      (two_digits_at l (suc (suc (suc (suc (suc (suc at)))))))
      ≡ field 8 at l
  unfolding field value_from
  word_field at h =
      let after : (k : ℕ) → k < length l → drop k l ≡ get_or l k 0 ∷ drop (suc k) l = λ k g. drop-cons l k 0 g in
      let two = suc (suc at) in
      let four = suc (suc two) in
      let six = suc (suc four) in
      rw (
        after at (omega arith),
        after (suc at) (omega arith),
        after two (omega arith),
        after (suc two) (omega arith),
        after four (omega arith),
        after (suc four) (omega arith),
        after six (omega arith),
        after (suc six) (omega arith),
      )
      (omega arith)

-- those of a part of the line are those of the line
part_read : (from n : ℕ) (l r : List ℕ) → ReadTo step_bytes (take n (drop from l)) r → n ≡ suc step_bytes
    → (i : ℕ) → i < step_bytes → get_or r i 0 ≡ two_digits_at l (from + i)
part_read from n l r p e i h =
    let next : from + suc i ≡ suc (from + i) = omega arith in
    let here = get_or-take n (drop from l) i 0 (omega arith) in
    let there = get_or-take n (drop from l) (suc i) 0 (omega arith) in
    p i h ∙ rw (here, there, get_or-drop from l i 0, get_or-drop from l (suc i) 0, next) refl

module _ (l p q : List ℕ) (a b c : ℕ) where
  pub call_read : length l ≡ call_length → ReadTo step_bytes (take 17 (drop 0 l)) p → ReadTo step_bytes (take 17 (drop 11 l)) q
      → a ≡ word (get_or p 4 0) (get_or p 6 0) (get_or p 8 0) (get_or p 10 0)
      → b ≡ word (get_or p 12 0) (get_or p 14 0) (get_or q 5 0) (get_or q 7 0)
      → c ≡ word (get_or q 9 0) (get_or q 11 0) (get_or q 13 0) (get_or q 15 0)
      → call_of (get_or p 0 0) (get_or p 2 0) a b c ≡ call_in l
  unfolding call_in
  call_read h f g x y z =
      let low : (i : ℕ) → i < step_bytes → get_or p i 0 ≡ two_digits_at l (0 + i) = λ i k. part_read 0 17 l p f refl i k in
      let high : (i : ℕ) → i < step_bytes → get_or q i 0 ≡ two_digits_at l (11 + i) = λ i k. part_read 11 17 l q g refl i k in
      let caller : get_or p 0 0 ≡ field 2 0 l = low 0 (omega arith) ∙ two_digits_field l 0 (omega arith) in
      let operation : get_or p 2 0 ≡ field 2 2 l = low 2 (omega arith) ∙ two_digits_field l 2 (omega arith) in
      let first : a ≡ field 8 4 l = x ∙ rw (low 4 (omega arith), low 6 (omega arith), low 8 (omega arith), low 10 (omega arith)) (word_field l 4 (omega arith)) in
      let second : b ≡ field 8 12 l = y ∙ rw (low 12 (omega arith), low 14 (omega arith), high 5 (omega arith), high 7 (omega arith)) (word_field l 12 (omega arith)) in
      let third : c ≡ field 8 20 l = z ∙ rw (high 9 (omega arith), high 11 (omega arith), high 13 (omega arith), high 15 (omega arith)) (word_field l 20 (omega arith)) in
      cc
