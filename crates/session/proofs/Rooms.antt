-- Laws of room for an answer to every byte: it is room for all lines.
use Rattle.std.proofs.Common.{ℕ, suc, ◌+◌, ◌*◌, ◌-◌, ◌/◌, ◌≤◌, ◌≡◌, refl, sym, ap, Bool, true, false, cond, List, [], ◌∷◌, arith, eqb, ltb, length, take, drop, length-take, take_all}
use borrow.Author.Tests.{ltb-true}
use Rattle.lines.specs.Ends.{line_feed}
use Rattle.frames.specs.Answers.{answer_length}
use Rattle.bench_lines.specs.declared.start.Standing.{Standing}
use Rattle.session.specs.declared.pieces.PieceEnd.{PieceEnd}
use Rattle.session.specs.Lines.{onto, cut}
use Rattle.session.specs.Feed.{fitting, taken}
use Rattle.session.specs.Run.{most_kept, kept}
use Rattle.session.specs.Pieces.{piece_left, piece_result}
use Rattle.session.proofs.Buffers.{cut_fits}

pub cut_behind : (bs : List ℕ) → drop (taken (cut bs).lines) bs ≡ (cut bs).rest
unfolding cut taken
cut_behind [] = refl
cut_behind (b ∷ bs) = go (eqb b line_feed) refl (cut_behind bs)
  where
    more : (lines : List (List ℕ)) (rest : List ℕ) → drop (taken lines) bs ≡ rest → drop (taken (onto b lines rest).lines) (b ∷ bs) ≡ (onto b lines rest).rest
    more [] rest h = ap (λ xs. b ∷ xs) h
    more (line ∷ lines) rest h =
        let one : suc (suc (length line)) + taken lines ≡ suc (suc (length line) + taken lines) = omega arith in
        rw one h

    go : (x : Bool) → eqb b line_feed ≡ x → drop (taken (cut bs).lines) bs ≡ (cut bs).rest → drop (taken (cut (b ∷ bs)).lines) (b ∷ bs) ≡ (cut (b ∷ bs)).rest
    go true e ih = let one : suc 0 + taken (cut bs).lines ≡ suc (taken (cut bs).lines) = omega arith in rw (e, one) ih
    go false e ih = rw e (more (cut bs).lines (cut bs).rest ih)

lines_few : (lines : List (List ℕ)) → length lines ≤ taken lines
unfolding taken
lines_few [] = omega arith
lines_few (line ∷ lines) = let ih = lines_few lines in omega arith

module _ (room : ℕ) (input : List ℕ) (enough : answer_length * length input ≤ room) where
  pub fitting_all : fitting room input ≡ (cut input).lines
  unfolding fitting
  fitting_all =
      let few = lines_few (cut input).lines in
      let fits = cut_fits input in
      take_all (room / answer_length) (cut input).lines (omega arith)

  pub left_all : piece_left room input ≡ kept (cut input).rest
  unfolding piece_left kept
  left_all = rw (fitting_all, cut_behind input) (go (ltb (room - answer_length * length (cut input).lines) answer_length) refl)
    where
      go : (b : Bool) → ltb (room - answer_length * length (cut input).lines) answer_length ≡ b
          → cond b (cut input).rest (take most_kept (cut input).rest) ≡ take most_kept (cut input).rest
      go true e =
          let few = lines_few (cut input).lines in
          let fits = cut_fits input in
          let none = ltb-true (room - answer_length * length (cut input).lines) answer_length e in
          sym (take_all most_kept (cut input).rest (omega arith))
      go false e = refl

  -- what is kept then, as a caller asks
  pub kept_small : (s : Standing) (p : PieceEnd) → p ≡ piece_result s room input → p.kept ≤ most_kept
  unfolding piece_result kept
  kept_small s p e = rw (e, left_all, length-take) (omega arith)
