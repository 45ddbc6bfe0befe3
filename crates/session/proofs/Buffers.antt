-- Laws of the lent buffers: what a piece leaves, and how much is written.
use Rattle.std.proofs.Common.{ℕ, zero, suc, ◌+◌, ◌*◌, ◌-◌, ◌/◌, ◌≤◌, min, ◌≡◌, refl, sym, ap, ◌∙◌, Bool, true, false, cond, List, [], ◌∷◌, arith, eqb, ltb, leb, length, take, drop, length-take, length-drop, take_all, take-take, take-add, drop_at, length-take-le}
use borrow.Author.Tests.{leb-true, leb-false}
use Rattle.lines.specs.Ends.{line_feed}
use Rattle.frames.specs.Answers.{answer_length}
use Rattle.bench_lines.specs.declared.start.Standing.{Standing}
use Rattle.session.specs.declared.feed.Progress.{Progress}
use Rattle.session.specs.declared.pieces.PieceEnd.{PieceEnd}
use Rattle.session.specs.Lines.{onto, cut, standing_after}
use Rattle.session.specs.Feed.{fitting, taken, over, feed_progress, piece_answers}
use Rattle.session.specs.Run.{most_kept, kept}
use Rattle.session.specs.Pieces.{piece_left, piece_result}

-- ---- what a piece leaves

pub take_lesser : (end : ℕ) (l : List ℕ) → take (min end (length l) - 0) (drop 0 l) ≡ take end l
take_lesser end l = go (leb end (length l)) refl
  where
    go : (b : Bool) → leb end (length l) ≡ b → take (min end (length l) - 0) l ≡ take end l
    go true e = let same : min end (length l) - 0 ≡ end = omega (arith, leb-true end (length l) e) in rw same
    go false e =
        let over-end = leb-false end (length l) e in
        let same : min end (length l) - 0 ≡ length l = omega arith in
        rw (same, take_all (length l) l (omega arith), take_all end l (omega arith))

-- the lines and what is left are as long as the bytes that they were cut from
pub cut_fits : (bs : List ℕ) → taken (cut bs).lines + length (cut bs).rest ≡ length bs
unfolding cut taken
cut_fits [] = refl
cut_fits (b ∷ bs) = go (eqb b line_feed) refl (cut_fits bs)
  where
    more : (lines : List (List ℕ)) (rest : List ℕ) → taken (onto b lines rest).lines + length (onto b lines rest).rest ≡ suc (taken lines + length rest)
    more [] rest = omega arith
    more (line ∷ lines) rest = omega arith

    go : (x : Bool) → eqb b line_feed ≡ x → taken (cut bs).lines + length (cut bs).rest ≡ length bs
        → taken (cut (b ∷ bs)).lines + length (cut (b ∷ bs)).rest ≡ suc (length bs)
    go true e ih = rw e (omega arith)
    go false e ih = rw e (more (cut bs).lines (cut bs).rest ∙ ap suc ih)

taken_take : (n : ℕ) (lines : List (List ℕ)) → taken (take n lines) ≤ taken lines
unfolding taken
taken_take zero lines = omega arith
taken_take (suc n) [] = omega arith
taken_take (suc n) (line ∷ lines) = let ih = taken_take n lines in omega arith

pub taken_within : (room : ℕ) (input : List ℕ) → taken (fitting room input) ≤ length input
unfolding fitting
taken_within room input = let t = taken_take (room / answer_length) (cut input).lines in let c = cut_fits input in omega arith

drop_take : (from m : ℕ) (l : List ℕ) → from + m ≤ length l → drop from (take (from + m) l) ≡ take m (drop from l)
drop_take from m l h = rw take-add (drop_at (take from l) (take m (drop from l)) from (length-take-le from l (omega arith)))

part_front : (from to : ℕ) (l : List ℕ) → from ≤ to → to ≤ length l → take (to - from) (drop from l) ≡ drop from (take to l)
part_front from to l h k =
    let whole : from + (to - from) ≡ to = omega arith in
    sym (drop_take from (to - from) l (omega arith)) ∙ ap (λ n. drop from (take n l)) whole

kept_front : (from to : ℕ) (l : List ℕ) → from ≤ to → to ≤ length l → take (min (to - from) most_kept) (drop from l) ≡ kept (drop from (take to l))
unfolding kept
kept_front from to l h k = rw (← part_front from to l h k) (go (leb (to - from) most_kept) refl)
  where
    go : (b : Bool) → leb (to - from) most_kept ≡ b → take (min (to - from) most_kept) (drop from l) ≡ take most_kept (take (to - from) (drop from l))
    go true e =
        let few = leb-true (to - from) most_kept e in
        let same : min (to - from) most_kept ≡ to - from = omega arith in
        let short : length (take (to - from) (drop from l)) ≤ most_kept = rw length-take (omega arith) in
        rw (same, take_all most_kept (take (to - from) (drop from l)) short)
    go false e =
        let many = leb-false (to - from) most_kept e in
        let same : min (to - from) most_kept ≡ most_kept = omega arith in
        rw (same, take-take most_kept (to - from) (drop from l) (omega arith))

-- how many of the bytes from a place on are kept, and which: all of them, or those of a line that goes on
abbrev kept_count : Bool → ℕ → ℕ
kept_count all rest = cond all rest (min rest most_kept)

count_within : (all : Bool) (rest : ℕ) → kept_count all rest ≤ rest
count_within true rest = omega arith
count_within false rest = omega arith

count_front : (all : Bool) (from to : ℕ) (l : List ℕ) → from ≤ to → to ≤ length l
    → take (kept_count all (to - from)) (drop from l) ≡ cond all (drop from (take to l)) (kept (drop from (take to l)))
count_front true from to l h k = part_front from to l h k
count_front false from to l h k = kept_front from to l h k

-- as the code has it: `to` is where the piece ends in the buffer l, f what its lines did
module _ (s : Standing) (room end : ℕ) (l : List ℕ) (to : ℕ) (t : to ≡ min end (length l)) (f : Progress)
    (e : f ≡ feed_progress s room (take (to - 0) (drop 0 l))) where
  input : take (to - 0) (drop 0 l) ≡ take end l
  input = rw t (take_lesser end l)

  came : f ≡ feed_progress s room (take end l)
  came = e ∙ ap (feed_progress s room) input

  place : f.next ≡ taken (fitting room (take end l))
  unfolding feed_progress
  place = ap (λ x. x.next) came ∙ omega arith

  pub next_within : f.next ≤ to
  next_within =
      let within = taken_within room (take end l) in
      let long = length-take end l in
      omega (arith, place)

  wrote : f.written ≡ answer_length * length (fitting room (take end l))
  unfolding feed_progress
  wrote = ap (λ x. x.written) came ∙ omega arith

  pub lines_fit : f.written ≤ room
  unfolding fitting
  lines_fit = let many = length-take (room / answer_length) (cut (take end l)).lines in omega (arith, wrote)

  pub answers_there : (out new : List ℕ) → new ≡ over (piece_answers s room (take (to - 0) (drop 0 l))) out
      → new ≡ over (piece_answers s room (take end l)) out
  answers_there out new k = k ∙ ap (λ xs. over (piece_answers s room xs) out) input

  module _ (n : ℕ) (k : n ≡ kept_count (ltb (room - f.written) answer_length) (to - f.next)) where
    pub front_fits : f.next + n ≤ length l
    front_fits = let h = next_within in let few = count_within (ltb (room - f.written) answer_length) (to - f.next) in omega (arith, k)

    left_there : take n (drop f.next l) ≡ piece_left room (take end l)
    unfolding piece_left
    left_there =
        let h = next_within in
        let same : to ≡ to - 0 = omega arith in
        let whole : take to l ≡ take end l = ap (λ m. take m l) same ∙ input in
        let behind : cond (ltb (room - f.written) answer_length) (drop f.next (take to l)) (kept (drop f.next (take to l)))
        ≡ piece_left room (take end l) = rw (whole, place, wrote) in
        rw k (count_front (ltb (room - f.written) answer_length) f.next to l h (omega arith)) ∙ behind

    pub left_moved : (new : List ℕ) → new ≡ over (take n (drop f.next l)) l → new ≡ over (piece_left room (take end l)) l
    left_moved new h = h ∙ ap (λ xs. over xs l) left_there

    pub piece_result_lem : record { standing = f.standing; kept = n; written = f.written } ≡ piece_result s room (take end l)
    unfolding piece_result feed_progress
    piece_result_lem =
        let so-many : length (take n (drop f.next l)) ≡ n = length-take-le n (drop f.next l) (rw length-drop (omega (arith, front_fits))) in
        let many : n ≡ length (piece_left room (take end l)) = sym so-many ∙ ap length left_there in
        let stands : f.standing ≡ standing_after s (fitting room (take end l)) = ap (λ x. x.standing) came in
        rw (stands, wrote, many)

-- ---- how much is written, as a caller asks

module _ (s : Standing) (room : ℕ) (input : List ℕ) (p : PieceEnd) (e : p ≡ piece_result s room input) where
  pub written_within : p.written ≤ room
  unfolding piece_result fitting
  written_within = rw (e, length-take) (omega arith)
