-- Laws of lines cut from bytes: the first line and what follows it, and bytes joined to bytes.
use Rattle.std.proofs.Common.{ℕ, zero, suc, ◌<◌, ◌≡◌, refl, Bool, true, false, List, [], ◌∷◌, ◌++◌, arith, le_of_suc-le-suc, eqb, length, take, drop}
use Rattle.rules.specs.Queues.{before}
use Rattle.lines.specs.Ends.{line_feed}
use Rattle.session.specs.Lines.{Cut, onto, cut}

abbrev pub cut_at : List (List ℕ) → List ℕ → Cut
cut_at lines rest = record { lines = lines; rest = rest }

-- a line feed comes: the bytes before it are the first line
pub cut_ended : (bs : List ℕ) → before line_feed bs < length bs
    → cut bs
    ≡ cut_at (take (before line_feed bs) bs ∷ (cut (drop (suc (before line_feed bs)) bs)).lines) (cut (drop (suc (before line_feed bs)) bs)).rest
unfolding before cut
cut_ended [] h = absurd (omega arith)
cut_ended (b ∷ bs) h = go (eqb b line_feed) refl (cut_ended bs)
  where
    go : (x : Bool) → eqb b line_feed ≡ x
        → (before line_feed bs < length bs
        → cut bs
        ≡ cut_at (take (before line_feed bs) bs ∷ (cut (drop (suc (before line_feed bs)) bs)).lines) (cut (drop (suc (before line_feed bs)) bs)).rest)
        → cut (b ∷ bs)
        ≡ cut_at (take (before line_feed (b ∷ bs)) (b ∷ bs) ∷ (cut (drop (suc (before line_feed (b ∷ bs))) (b ∷ bs))).lines) (cut (drop (suc (before line_feed (b ∷ bs))) (b ∷ bs))).rest
    go true e ih = rw e
    go false e ih = rw (e, ih (le_of_suc-le-suc (rw e at h)))

-- none comes: they are the rest
pub cut_unended : (bs : List ℕ) → before line_feed bs ≡ length bs → cut bs ≡ cut_at [] bs
unfolding before cut
cut_unended [] h = refl
cut_unended (b ∷ bs) h = go (eqb b line_feed) refl (cut_unended bs)
  where
    go : (x : Bool) → eqb b line_feed ≡ x → (before line_feed bs ≡ length bs → cut bs ≡ cut_at [] bs) → cut (b ∷ bs) ≡ cut_at [] (b ∷ bs)
    go true e ih = let none : 0 ≡ suc (length bs) = rw e at h in absurd (omega arith)
    go false e ih = let rest : suc (before line_feed bs) ≡ suc (length bs) = rw e at h in rw (e, ih (omega arith))

-- what is left has no line feed
pub cut_rest : (bs : List ℕ) → before line_feed (cut bs).rest ≡ length (cut bs).rest
unfolding before cut
cut_rest [] = refl
cut_rest (b ∷ bs) = go (eqb b line_feed) refl (cut bs).lines (cut bs).rest (cut_rest bs)
  where
    more : eqb b line_feed ≡ false → (lines : List (List ℕ)) (rest : List ℕ) → before line_feed rest ≡ length rest
        → before line_feed (onto b lines rest).rest ≡ length (onto b lines rest).rest
    more e [] rest h = rw (e, h)
    more e (line ∷ lines) rest h = h

    go : (x : Bool) → eqb b line_feed ≡ x → (lines : List (List ℕ)) (rest : List ℕ) → before line_feed (cut bs).rest ≡ length (cut bs).rest
        → before line_feed (cut (b ∷ bs)).rest ≡ length (cut (b ∷ bs)).rest
    go true e lines rest h = rw e h
    go false e lines rest h = rw e (more e (cut bs).lines (cut bs).rest h)

-- ---- bytes joined to bytes: what the first leave is joined to the second

module _ (ys : List ℕ) where
  onto_append : (b : ℕ) → eqb b line_feed ≡ false → (lines : List (List ℕ)) (rest : List ℕ)
      → onto b (lines ++ (cut (rest ++ ys)).lines) (cut (rest ++ ys)).rest
      ≡ cut_at ((onto b lines rest).lines ++ (cut ((onto b lines rest).rest ++ ys)).lines) (cut ((onto b lines rest).rest ++ ys)).rest
  unfolding cut
  onto_append b e [] rest = rw e
  onto_append b e (line ∷ lines) rest = refl

  pub cut_append : (xs : List ℕ) → cut (xs ++ ys) ≡ cut_at ((cut xs).lines ++ (cut ((cut xs).rest ++ ys)).lines) (cut ((cut xs).rest ++ ys)).rest
  unfolding cut
  cut_append [] = refl
  cut_append (b ∷ bs) = go (eqb b line_feed) refl (cut_append bs)
    where
      go : (x : Bool) → eqb b line_feed ≡ x → cut (bs ++ ys) ≡ cut_at ((cut bs).lines ++ (cut ((cut bs).rest ++ ys)).lines) (cut ((cut bs).rest ++ ys)).rest
          → cut ((b ∷ bs) ++ ys) ≡ cut_at ((cut (b ∷ bs)).lines ++ (cut ((cut (b ∷ bs)).rest ++ ys)).lines) (cut ((cut (b ∷ bs)).rest ++ ys)).rest
      go true e ih = rw (e, ih)
      go false e ih = rw (e, ih) (onto_append b e (cut bs).lines (cut bs).rest)

-- bytes without a line feed stand in front of the first line, or of the rest
abbrev pub onto_all : List ℕ → List (List ℕ) → List ℕ → Cut
onto_all bs [] rest = cut_at [] (bs ++ rest)
onto_all bs (line ∷ lines) rest = cut_at ((bs ++ line) ∷ lines) rest

pub cut_onto : (bs ys : List ℕ) → before line_feed bs ≡ length bs → cut (bs ++ ys) ≡ onto_all bs (cut ys).lines (cut ys).rest
unfolding before cut
cut_onto [] ys h = none (cut ys).lines (cut ys).rest
  where
    none : (lines : List (List ℕ)) (rest : List ℕ) → cut_at lines rest ≡ onto_all [] lines rest
    none [] rest = refl
    none (line ∷ lines) rest = refl
cut_onto (b ∷ bs) ys h = go (eqb b line_feed) refl (cut_onto bs ys)
  where
    more : (lines : List (List ℕ)) (rest : List ℕ) → onto b (onto_all bs lines rest).lines (onto_all bs lines rest).rest ≡ onto_all (b ∷ bs) lines rest
    more [] rest = refl
    more (line ∷ lines) rest = refl

    go : (x : Bool) → eqb b line_feed ≡ x → (before line_feed bs ≡ length bs → cut (bs ++ ys) ≡ onto_all bs (cut ys).lines (cut ys).rest)
        → cut ((b ∷ bs) ++ ys) ≡ onto_all (b ∷ bs) (cut ys).lines (cut ys).rest
    go true e ih = let none : 0 ≡ suc (length bs) = rw e at h in absurd (omega arith)
    go false e ih =
        let rest : suc (before line_feed bs) ≡ suc (length bs) = rw e at h in
        rw (e, ih (omega arith)) (more (cut ys).lines (cut ys).rest)

pub unended_take : (n : ℕ) (bs : List ℕ) → before line_feed bs ≡ length bs → before line_feed (take n bs) ≡ length (take n bs)
unfolding before
unended_take zero bs h = refl
unended_take (suc n) [] h = refl
unended_take (suc n) (b ∷ bs) h = go (eqb b line_feed) refl (unended_take n bs)
  where
    go : (x : Bool) → eqb b line_feed ≡ x → (before line_feed bs ≡ length bs → before line_feed (take n bs) ≡ length (take n bs))
        → before line_feed (b ∷ take n bs) ≡ suc (length (take n bs))
    go true e ih = let none : 0 ≡ suc (length bs) = rw e at h in absurd (omega arith)
    go false e ih = let rest : suc (before line_feed bs) ≡ suc (length bs) = rw e at h in rw (e, ih (omega arith))
