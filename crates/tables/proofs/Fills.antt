-- A fresh array filled from a list: what it holds as the loop goes on, and at its end; over any room.
use Rattle.std.proofs.Common.{ℕ, suc, ◌+◌, ◌-◌, ◌<◌, ◌≤◌, ◌≡◌, sym, ◌∙◌, List, [], ◌∷◌, ◌++◌, append_assoc, arith, add-one, get_or, set, length, take, replicate, take-suc, length-take-le, Bool, ltb}
use lib.Seq.{set_at}
use Rattle.rules.specs.Numbers.{priority_end}
use Rattle.rules.specs.Words.{padded}

-- the first i entries of the list, and zeros up to the end of the room
unfoldable pub filled : ℕ → ℕ → List ℕ → List ℕ
filled room i l = take i l ++ replicate (room - i) 0

-- a number that is a priority: each byte is one
abbrev pub is_priority : ℕ → Bool
is_priority p = ltb p priority_end

module _ (room i : ℕ) (l s : List ℕ) where
  -- one entry more
  pub filled_again : s ≡ filled room i l → i < room → i < length l → set s i (get_or l i 0) ≡ filled room (i + 1) l
  unfolding filled
  filled_again e h k =
      let n : room - i ≡ suc (room - suc i) = omega arith in
      let here = set_at (take i l) 0 (replicate (room - suc i) 0) (get_or l i 0) i (length-take-le i l (omega arith)) in
      rw (e, add-one, n, take-suc l i 0 k) (here ∙ sym (append_assoc (take i l) (get_or l i 0 ∷ []) (replicate (room - suc i) 0)))

  pub filled_end : (n : ℕ) → s ≡ filled room i l → i ≤ n → n ≤ i → n ≤ length l → s ≡ padded room 0 (take n l)
  unfolding filled padded
  filled_end n e h k m = let same : i ≡ n = omega arith in rw (e, same, length-take-le n l m)
