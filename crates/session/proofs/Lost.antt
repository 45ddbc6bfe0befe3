-- However little room there is for answers, no line is lost: those that had no room are cut again from what a piece leaves.
use Rattle.std.proofs.Common.{ℕ, zero, suc, ◌*◌, ◌-◌, ◌/◌, ◌≡◌, refl, sym, ap, subst, ◌∙◌, Bool, true, false, cond, List, ◌++◌, append_assoc, arith, leb, length, take, drop, length-take, take-append-drop, take_all, drop-drop, length-take-le}
use borrow.Author.Tests.{ltb-false, leb-true, leb-false}
use Rattle.rules.specs.Queues.{before}
use Rattle.rules.proofs.Retrieve.{before_le}
use Rattle.lines.specs.Ends.{line_feed}
use Rattle.frames.specs.Answers.{answer_length}
use Rattle.bench_lines.specs.declared.start.Standing.{Standing}
use Rattle.session.specs.Lines.{cut, answers_to, standing_after}
use Rattle.session.specs.Feed.{fitting, taken, piece_answers}
use Rattle.session.specs.Ending.{ending}
use Rattle.session.specs.Run.{run_from, kept}
use Rattle.session.specs.Pieces.{full, piece_left, piece_result}
use Rattle.session.specs.Theorems.{NothingLost}
use Rattle.session.proofs.Cuts.{cut_at, cut_ended, cut_unended, cut_rest}
use Rattle.session.proofs.Rooms.{cut_behind}
use Rattle.session.proofs.Parts.{answers_append, standing_append, kept_same, ending_kept, run_append}

-- behind some of the lines, the others are cut again
cut_again : (n : ℕ) (bs : List ℕ) → cut (drop (taken (take n (cut bs).lines)) bs) ≡ cut_at (drop n (cut bs).lines) (cut bs).rest
unfolding taken
cut_again zero bs = refl
cut_again (suc n) bs = go (leb (length bs) (before line_feed bs)) refl (cut_again n (drop (suc (before line_feed bs)) bs))
  where
    behind : List ℕ
    behind = drop (suc (before line_feed bs)) bs

    go : (b : Bool) → leb (length bs) (before line_feed bs) ≡ b
        → cut (drop (taken (take n (cut behind).lines)) behind) ≡ cut_at (drop n (cut behind).lines) (cut behind).rest
        → cut (drop (taken (take (suc n) (cut bs).lines)) bs) ≡ cut_at (drop (suc n) (cut bs).lines) (cut bs).rest
    go true e ih =
        let none = cut_unended bs (omega (arith, before_le line_feed bs, leb-true (length bs) (before line_feed bs) e)) in
        subst (λ c. cut (drop (taken (take (suc n) c.lines)) bs) ≡ cut_at (drop (suc n) c.lines) c.rest) (sym none) none
    go false e ih =
        let ended = cut_ended bs (leb-false (length bs) (before line_feed bs) e) in
        let long = length-take-le (before line_feed bs) bs (before_le line_feed bs) in
        rw (ap (λ c. c.lines) ended, ap (λ c. c.rest) ended, long, ← drop-drop) ih

module _ (s : Standing) (more : List ℕ) where
  -- the lines of some bytes are answered in two parts
  in_two : (n : ℕ) (bs left : List ℕ) → cut left ≡ cut_at (drop n (cut bs).lines) (cut bs).rest
      → run_from s (bs ++ more) ≡ answers_to s (take n (cut bs).lines) ++ run_from (standing_after s (take n (cut bs).lines)) (left ++ more)
  in_two n bs left e =
      let lines = (cut bs).lines in
      let s' = standing_after s (take n lines) in
      let others : run_from s' (left ++ more) ≡ answers_to s' (drop n lines) ++ run_from (standing_after s' (drop n lines)) ((cut bs).rest ++ more) =
      run_append s' left more ∙ ap (λ c. answers_to s' c.lines ++ run_from (standing_after s' c.lines) (c.rest ++ more)) e in
      let all : answers_to s lines ++ run_from (standing_after s lines) ((cut bs).rest ++ more)
      ≡ answers_to s (take n lines ++ drop n lines) ++ run_from (standing_after s (take n lines ++ drop n lines)) ((cut bs).rest ++ more) =
      ap (λ ls. answers_to s ls ++ run_from (standing_after s ls) ((cut bs).rest ++ more)) (sym (take-append-drop n lines)) in
      run_append s bs more ∙ all
      ∙ rw (answers_append s (take n lines) (drop n lines), standing_append s (take n lines) (drop n lines), others)
      (append_assoc (answers_to s (take n lines)) (answers_to s' (drop n lines)) _)

  -- what is kept of an unended line serves for all of it
  kept_run : (rest : List ℕ) → before line_feed rest ≡ length rest → run_from s (kept rest ++ more) ≡ run_from s (rest ++ more)
  unfolding run_from
  kept_run rest h =
      let same = kept_same s rest h more in
      let last : ending (standing_after s (cut (rest ++ more)).lines) (cut (kept rest ++ more)).rest ≡ ending (standing_after s (cut (rest ++ more)).lines) (cut (rest ++ more)).rest =
      sym (ending_kept _ (cut (kept rest ++ more)).rest) ∙ ap (ending (standing_after s (cut (rest ++ more)).lines)) same.left ∙ ending_kept _ (cut (rest ++ more)).rest in
      rw (same.written, same.standing, last)

pub nothing_lost : NothingLost
unfolding piece_answers piece_result piece_left fitting
nothing_lost s room input more = go (full room input) refl
  where
    n : ℕ
    n = room / answer_length

    behind : List ℕ
    behind = drop (taken (take n (cut input).lines)) input

    s' : Standing
    s' = standing_after s (take n (cut input).lines)

    two : run_from s (input ++ more) ≡ answers_to s (take n (cut input).lines) ++ run_from s' (behind ++ more)
    two = in_two s more n input behind (cut_again n input)

    -- where there is room for another answer, all lines were answered
    unended : full room input ≡ false → before line_feed behind ≡ length behind
    unended e =
        let some = ltb-false (room - answer_length * length (take n (cut input).lines)) answer_length e in
        let many = length-take n (cut input).lines in
        let all : take n (cut input).lines ≡ (cut input).lines = take_all n (cut input).lines (omega arith) in
        let rest : behind ≡ (cut input).rest = rw all (cut_behind input) in
        rw rest (cut_rest input)

    go : (b : Bool) → full room input ≡ b
        → run_from s (input ++ more) ≡ answers_to s (take n (cut input).lines) ++ run_from s' (cond b behind (kept behind) ++ more)
    go true e = two
    go false e = two ∙ ap (λ x. answers_to s (take n (cut input).lines) ++ x) (sym (kept_run s' more behind (unended e)))
