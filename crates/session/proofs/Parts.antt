-- A run over parts of the input, however the input is cut, writes the same bytes as the run over the whole.
use Rattle.std.proofs.Common.{ℕ, ◌≤◌, ◌<◌, ◌≡◌, refl, sym, ◌∙◌, Bool, true, false, List, [], ◌∷◌, ◌++◌, append_assoc, append-nil, arith, leb, length, take, length-append, take_all, take-take, length-take-le}
use lib.Seq.{take-append-le}
use borrow.Author.Tests.{leb-true, leb-false}
use Rattle.rules.specs.Queues.{before}
use Rattle.lines.specs.Ends.{line_feed, longest}
use Rattle.bench_lines.specs.declared.start.Standing.{Standing}
use Rattle.bench_lines.specs.Start.{start}
use Rattle.bench_lines.specs.Steps.{line_done}
use Rattle.bench_lines.proofs.LineDone.{long_alike}
use Rattle.frames.specs.Answers.{answer_line}
use Rattle.session.specs.Lines.{Cut, cut, after, answers_to, standing_after}
use Rattle.session.specs.Feed.{piece_answers}
use Rattle.session.proofs.Cuts.{cut_unended, cut_rest, cut_append, cut_onto, unended_take, onto_all}
use Rattle.session.specs.Ending.{ending}
use Rattle.session.specs.Run.{run_from, most_kept, kept, joined, run_parts}
use Rattle.session.specs.Pieces.{piece_result}
use Rattle.session.specs.Theorems.{PartsAgree, PieceIsPart}
use Rattle.session.proofs.Rooms.{fitting_all, left_all}

-- ---- lines behind lines

pub answers_append : (s : Standing) (ls ms : List (List ℕ)) → answers_to s (ls ++ ms) ≡ answers_to s ls ++ answers_to (standing_after s ls) ms
unfolding answers_to standing_after
answers_append s [] ms = refl
answers_append s (l ∷ ls) ms = rw (answers_append (after s l) ls ms) (sym (append_assoc (answer_line (line_done s l).answer) (answers_to (after s l) ls) _))

pub standing_append : (s : Standing) (ls ms : List (List ℕ)) → standing_after s (ls ++ ms) ≡ standing_after (standing_after s ls) ms
unfolding standing_after
standing_append s [] ms = refl
standing_append s (l ∷ ls) ms = standing_append (after s l) ls ms

-- ---- parts

-- two ways to cut that write the same and leave the same to be kept
pub record Same (s : Standing) (x y : Cut) : Type 0 where
  pub written : answers_to s x.lines ≡ answers_to s y.lines
  pub standing : standing_after s x.lines ≡ standing_after s y.lines
  pub left : kept x.rest ≡ kept y.rest

-- the bytes that are kept of an unended line serve for all of them
module _ (s : Standing) (bs : List ℕ) (unended : before line_feed bs ≡ length bs) (ys : List ℕ) where
  long_same : longest < length bs → (lines : List (List ℕ)) (rest : List ℕ) → Same s (onto_all (kept bs) lines rest) (onto_all bs lines rest)
  unfolding kept answers_to standing_after
  long_same h [] rest =
      let some : most_kept ≤ length bs = h in
      let some-kept : most_kept ≤ length (take (most_kept) bs) = rw (length-take-le (most_kept) bs some) (omega arith) in
      record {
        written = refl;
        standing = refl;
        left =
            take-append-le (most_kept) (take (most_kept) bs) rest some-kept
            ∙ take-take (most_kept) (most_kept) bs (omega arith)
            ∙ sym (take-append-le (most_kept) bs rest some);
      }
  long_same h (line ∷ lines) rest =
      let n = length-take-le (most_kept) bs h in
      let one : longest < length (take (most_kept) bs ++ line) = rw (length-append, n) (omega arith) in
      let two : longest < length (bs ++ line) = rw length-append (omega arith) in
      let same = long_alike s (take (most_kept) bs ++ line) (bs ++ line) one two in
      record { written = rw same; standing = rw same; left = refl }

  pub kept_same : Same s (cut (kept bs ++ ys)) (cut (bs ++ ys))
  unfolding kept
  kept_same = go (leb (length bs) longest) refl
    where
      go : (x : Bool) → leb (length bs) longest ≡ x → Same s (cut (kept bs ++ ys)) (cut (bs ++ ys))
      go true e =
          let all : take (most_kept) bs ≡ bs = take_all (most_kept) bs (omega (arith, leb-true (length bs) longest e)) in
          rw all (record { written = refl; standing = refl; left = refl })
      go false e =
          rw (cut_onto (take (most_kept) bs) ys (unended_take (most_kept) bs unended), cut_onto bs ys unended)
          (long_same (leb-false (length bs) longest e) (cut ys).lines (cut ys).rest)

pub ending_kept : (s : Standing) (bs : List ℕ) → ending s (kept bs) ≡ ending s bs
unfolding ending kept
ending_kept s [] = refl
ending_kept s (b ∷ bs) = refl

-- bytes behind bytes: what the first write, and then the run from what they leave
pub run_append : (s : Standing) (xs ys : List ℕ) → run_from s (xs ++ ys) ≡ answers_to s (cut xs).lines ++ run_from (standing_after s (cut xs).lines) ((cut xs).rest ++ ys)
unfolding run_from
run_append s xs ys =
    rw (cut_append ys xs, answers_append s (cut xs).lines (cut ((cut xs).rest ++ ys)).lines, standing_append s (cut xs).lines (cut ((cut xs).rest ++ ys)).lines)
    (append_assoc (answers_to s (cut xs).lines) _ _)

pub parts_from : (parts : List (List ℕ)) (s : Standing) (bs : List ℕ) → before line_feed bs ≡ length bs → run_parts s (kept bs) parts ≡ run_from s (bs ++ joined parts)
unfolding run_parts run_from answers_to standing_after
parts_from [] s bs h = ending_kept s bs ∙ alone
  where
    alone : ending s bs ≡ run_from s (bs ++ [])
    alone = rw (append-nil, cut_unended bs h)
parts_from (part ∷ parts) s bs h =
    let same = kept_same s bs h part in
    let rest = parts_from parts (standing_after s (cut (bs ++ part)).lines) (cut (bs ++ part)).rest (cut_rest (bs ++ part)) in
    rw (same.written, same.standing, same.left, rest, ← append_assoc bs part (joined parts))
    (sym (run_append s (bs ++ part) (joined parts)))

-- what stands after some bytes, and after more of them: the same as if all had come at once
module _ (s : Standing) (xs ys : List ℕ) where
  same_on : Same (standing_after s (cut xs).lines) (cut (kept (cut xs).rest ++ ys)) (cut ((cut xs).rest ++ ys))
  same_on = kept_same (standing_after s (cut xs).lines) (cut xs).rest (cut_rest xs) ys

  pub standing_on : standing_after (standing_after s (cut xs).lines) (cut (kept (cut xs).rest ++ ys)).lines ≡ standing_after s (cut (xs ++ ys)).lines
  standing_on = rw (cut_append ys xs, standing_append s (cut xs).lines (cut ((cut xs).rest ++ ys)).lines) same_on.standing

  pub left_on : kept (cut (kept (cut xs).rest ++ ys)).rest ≡ kept (cut (xs ++ ys)).rest
  left_on = rw (cut_append ys xs) same_on.left

-- ---- the theorems

pub parts_agree : PartsAgree
unfolding before kept
parts_agree parts = parts_from parts start [] refl

pub piece_is_part : PieceIsPart
unfolding run_parts piece_answers piece_result
piece_is_part s room front part parts h = rw (fitting_all room (front ++ part) h, left_all room (front ++ part) h)
