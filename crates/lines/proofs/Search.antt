-- Laws of what begins at a place, by where the search for a line feed ends.
use Rattle.std.proofs.Common.{◌≡◌, ℕ, ◌+◌, ◌<◌, ◌≤◌, Bool, true, false, cond, Option, Some, None, List, [], ◌∷◌, eqb, ltb, length, drop, position, refl, arith}
use Rattle.std.specs.List.{position_or_len}
use borrow.Author.Tests.{eq-eqb, ne_eqb, lt-ltb, le-ltb, ltb-true, ltb-false}
use Rattle.rules.specs.Queues.{before}
use Rattle.rules.proofs.Retrieve.{before_le}
use Rattle.lines.specs.declared.ends.Line.TheVariants.{Whole, TooLong, Unended, Nothing}
use Rattle.lines.specs.Ends.{line_feed, longest, line_at, line_in}

-- ---- the search: the place of the first line feed is how many bytes stand before it

before_position : (b : ℕ) (l : List ℕ) → position_or_len (λ x. eqb x b) l ≡ before b l
unfolding before
before_position b [] = refl
before_position b (x ∷ xs) = go (eqb x b) refl (before_position b xs)
  where
    go : (t : Bool) → eqb x b ≡ t → position_or_len (λ x. eqb x b) xs ≡ before b xs → position_or_len (λ x. eqb x b) (x ∷ xs) ≡ before b (x ∷ xs)
    go true e ih = rw e refl
    go false e ih = rw (e, ih) (omega arith)

module _ (l : List ℕ) where
  found : (n : ℕ) → Some n ≡ position (λ x. eqb x line_feed) l → (n ≡ before line_feed l) × (n < length l)
  found n e = go (ltb (before line_feed l) (length l)) refl (rw (before_position line_feed l) at e)
    where
      go : (t : Bool) → ltb (before line_feed l) (length l) ≡ t → Some n ≡ cond t (Some (before line_feed l)) None
          → (n ≡ before line_feed l) × (n < length l)
      go true h k = let same : n ≡ before line_feed l = cc in (same, rw same (ltb-true (before line_feed l) (length l) h))
      go false h k = absurd (cc)

  not_found : None ≡ position (λ x. eqb x line_feed) l → before line_feed l ≡ length l
  not_found e = go (ltb (before line_feed l) (length l)) refl (rw (before_position line_feed l) at e)
    where
      go : (t : Bool) → ltb (before line_feed l) (length l) ≡ t → ◌≡◌ {A = Option ℕ} None (cond t (Some (before line_feed l)) None) → before line_feed l ≡ length l
      go true h k = absurd (cc)
      go false h k = omega (arith, ltb-false (before line_feed l) (length l) h, before_le line_feed l)

-- ---- what begins at a place, whose rest this is

module _ (s : List ℕ) (at : ℕ) (rest : List ℕ) (e : rest ≡ drop at s) where
  pub line_nothing : length rest ≡ 0 → Nothing ≡ line_at s at
  unfolding line_at line_in
  line_nothing h = rw (← e, eq-eqb (length rest) 0 h)

  module _ (some : length rest ≡ 0 → ⊥) where
    pub line_unended : None ≡ position (λ x. eqb x line_feed) rest → Unended ≡ line_at s at
    unfolding line_at line_in
    line_unended k = rw (← e, ne_eqb (length rest) 0 some, eq-eqb (before line_feed rest) (length rest) (not_found rest k))

    module _ (n : ℕ) (k : Some n ≡ position (λ x. eqb x line_feed) rest) where
      here : n ≡ before line_feed rest
      here = (found rest n k).0

      ended : eqb (before line_feed rest) (length rest) ≡ false
      ended = ne_eqb (before line_feed rest) (length rest) (λ all. let inside = (found rest n k).1 in omega (arith, here))

      pub line_too_long : longest < n → TooLong (at + n + 1) ≡ line_at s at
      unfolding line_at line_in
      line_too_long h = rw (← e, ne_eqb (length rest) 0 some, ended, ← here, lt-ltb longest n h)

      pub line_whole : n ≤ longest → Whole at (at + n) (at + n + 1) ≡ line_at s at
      unfolding line_at line_in
      line_whole h = rw (← e, ne_eqb (length rest) 0 some, ended, ← here, le-ltb longest n h)
