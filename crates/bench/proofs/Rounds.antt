-- Laws of the rounds: what one leaves, in the terms of all that was read.
use Prim.Native.Nat.{ℕ, ◌+◌, ◌*◌, ◌<◌, ◌≤◌, min}
use mathlib.Core.Path.{◌≡◌, refl, sym, ap, ◌∙◌}
use mathlib.Core.Bool.{true, false}
use mathlib.Core.List.{List, [], ◌∷◌, ◌++◌}
use native.Mathlib.Omega.{arith}
use lib.ListN.{length, take, drop, length-append, length-take, length-drop}
use lib.Seq.{take-add, take-append_seam, length-take-le}
use borrow.Author.Tests.{le-leb, ne_eqb, eqb-true, eqb-false}
use Rattle.frames.specs.Answers.{answer_length, placed}
use Rattle.frames.proofs.Written.{answer_length_lem}
use Rattle.bench_lines.specs.declared.start.Standing.{Standing}
use Rattle.bench_lines.specs.Start.{start}
use Rattle.session.specs.declared.pieces.PieceEnd.{PieceEnd}
use Rattle.session.specs.Lines.{cut, answers_to, standing_after}
use Rattle.session.specs.Feed.{over, piece_answers}
use Rattle.session.specs.Ending.{ending, ending_length}
use Rattle.session.specs.Run.{kept, most_kept}
use Rattle.session.specs.Pieces.{piece_result, piece_left}
use Rattle.session.proofs.PieceLoop.{answers_length}
use Rattle.session.proofs.Rooms.{fitting_all, left_all}
use Rattle.session.proofs.Parts.{ending_kept, standing_on, left_on}
use Rattle.bench.specs.declared.Round.{Round}
use Rattle.bench.specs.declared.Reason.TheVariants.{Input, Rounds}
use Rattle.bench.specs.Rounds.{Holds, round_standing, round_left, round_answers, RoundDid, Reached, RunEnd, most_rounds}

-- ---- bytes at the front of a buffer

front_held : (n : ℕ) (buffer bytes : List ℕ) → n ≤ length buffer → take n buffer ≡ bytes → Holds n buffer bytes
front_held n buffer bytes h e = record { many = sym (length-take-le n buffer h) ∙ ap length e; same = e }

over_held : (bytes buffer : List ℕ) → Holds (length bytes) (over bytes buffer) bytes
over_held bytes buffer = record { many = refl; same = take-append_seam bytes (drop (length bytes) buffer) }

pub held_within : (n : ℕ) (buffer bytes : List ℕ) → Holds n buffer bytes → n ≤ length buffer
held_within n buffer bytes h =
    let all : min n (length buffer) ≡ n = sym (length-take n buffer) ∙ ap length h.same ∙ sym h.many in
    omega arith

-- ---- the input has ended

ending_small : (s : Standing) (rest : List ℕ) → length (ending s rest) ≤ answer_length
unfolding ending
ending_small s [] = omega arith
ending_small s (b ∷ bs) = rw answer_length_lem (omega arith)

ending_held : (s : Standing) (rest out : List ℕ) → answer_length ≤ length out
    → Holds (ending_length s rest (length out)) (placed 0 (ending s rest) out) (ending s rest)
unfolding ending_length placed
ending_held s rest out room =
    let small = ending_small s rest in
    let fits = le-leb (length (ending s rest)) (length out) (omega arith) in
    let same : 0 + length (ending s rest) ≡ length (ending s rest) = omega arith in
    rw (same, fits) (over_held (ending s rest) out)

pub did_end : (s : Standing) (n : ℕ) (old buffer out : List ℕ) → take n buffer ≡ take n old → n ≤ length buffer → answer_length ≤ length out
    → (written : ℕ) → written ≡ ending_length s (take n buffer) (length out)
    → (new : List ℕ) → new ≡ placed 0 (ending s (take n buffer)) out
    → RoundDid s (take n old) (record { standing = s; kept = n; written = written; ended = true }) buffer new
unfolding round_standing round_left round_answers
did_end s n old buffer out same fits room written e new k =
    record {
      part = [];
      ended = refl;
      stands = refl;
      left = front_held n buffer (take n old) fits same;
      answers = rw (e, k, same) (ending_held s (take n old) out room);
    }

-- ---- a part was read

some_standing : (s : Standing) (front part : List ℕ) → 0 < length part → round_standing s front part ≡ standing_after s (cut (front ++ part)).lines
unfolding round_standing
some_standing s front [] h = absurd (omega arith)
some_standing s front (b ∷ bs) h = refl

some_left : (front part : List ℕ) → 0 < length part → round_left front part ≡ kept (cut (front ++ part)).rest
unfolding round_left
some_left front [] h = absurd (omega arith)
some_left front (b ∷ bs) h = refl

some_answers : (s : Standing) (front part : List ℕ) → 0 < length part → round_answers s front part ≡ answers_to s (cut (front ++ part)).lines
unfolding round_answers
some_answers s front [] h = absurd (omega arith)
some_answers s front (b ∷ bs) h = refl

abbrev round_after : PieceEnd → Round
round_after p = record { standing = p.standing; kept = p.kept; written = p.written; ended = false }

module _ (s : Standing) (front part buffer out : List ℕ) (some : 0 < length part) (room : answer_length * length (front ++ part) ≤ length out) where
  part_left : Holds (length (piece_left (length out) (front ++ part))) (over (piece_left (length out) (front ++ part)) buffer) (round_left front part)
  part_left = rw (left_all (length out) (front ++ part) room, some_left front part some) (over_held (kept (cut (front ++ part)).rest) buffer)

  part_did : RoundDid s front (round_after (piece_result s (length out) (front ++ part)))
      (over (piece_left (length out) (front ++ part)) buffer) (over (piece_answers s (length out) (front ++ part)) out)
  unfolding piece_result piece_answers
  part_did =
      let all = fitting_all (length out) (front ++ part) room in
      record {
        part = part;
        ended = sym (ne_eqb (length part) 0 (λ e. omega arith));
        stands = rw (all, some_standing s front part some);
        left = part_left;
        answers =
            rw (all, some_answers s front part some, ← answers_length s (cut (front ++ part)).lines)
            (over_held (answers_to s (cut (front ++ part)).lines) out);
      }

pub did_part : (s : Standing) (n m : ℕ) (old buffer out : List ℕ) → take n buffer ≡ take n old → n + m ≤ length buffer → 0 < m
    → answer_length * length buffer ≤ length out
    → (p : PieceEnd) → p ≡ piece_result s (length out) (take (n + m) buffer)
    → (left new : List ℕ) → left ≡ over (piece_left (length out) (take (n + m) buffer)) buffer
    → new ≡ over (piece_answers s (length out) (take (n + m) buffer)) out
    → RoundDid s (take n old) (round_after p) left new
did_part s n m old buffer out same fits some room p e left new l k =
    let split : take (n + m) buffer ≡ take n old ++ take m (drop n buffer) = take-add n m buffer ∙ ap (λ xs. xs ++ take m (drop n buffer)) same in
    let long : length (take m (drop n buffer)) ≡ m = length-take-le m (drop n buffer) (rw length-drop (omega arith)) in
    let whole : length (take n old ++ take m (drop n buffer)) ≡ n + m = ap length (sym split) ∙ length-take-le (n + m) buffer fits in
    rw (e, l, k, split)
    (part_did s (take n old) (take m (drop n buffer)) buffer out (rw long some) (rw whole (omega arith)))

-- ---- round after round

pub reached_start : (buffer : List ℕ) → Reached start 0 buffer most_rounds
unfolding cut standing_after kept
reached_start buffer = record { read = []; stands = refl; left = record { many = refl; same = refl }; rounds = omega arith }

pub kept_few : (s : Standing) (n : ℕ) (buffer : List ℕ) (rounds_left : ℕ) → Reached s n buffer rounds_left → n ≤ most_kept
unfolding kept
kept_few s n buffer rounds_left so_far =
    let many : n ≡ min most_kept (length (cut so_far.read).rest) = so_far.left.many ∙ length-take most_kept (cut so_far.read).rest in
    omega arith

module _ (s : Standing) (n : ℕ) (old : List ℕ) (rounds_left : ℕ) (so_far : Reached s n old rounds_left) (r : Round) (buffer out : List ℕ)
    (did : RoundDid s (take n old) r buffer out) where
  pub reached_again : r.ended ≡ false → (fewer : ℕ) → fewer + 1 ≡ rounds_left → Reached r.standing r.kept buffer fewer
  reached_again going fewer more =
      let read = so_far.read in
      let part = did.part in
      let none = eqb-false (length part) 0 (sym did.ended ∙ going) in
      let some : 0 < length part = omega arith in
      let left : round_left (take n old) part ≡ kept (cut (read ++ part)).rest =
      some_left (take n old) part some ∙ ap (λ f. kept (cut (f ++ part)).rest) so_far.left.same ∙ left_on s read part in
      record {
        read = read ++ part;
        stands =
            did.stands ∙ some_standing s (take n old) part some ∙ ap (λ f. standing_after s (cut (f ++ part)).lines) so_far.left.same
            ∙ ap (λ x. standing_after x (cut (kept (cut read).rest ++ part)).lines) so_far.stands ∙ standing_on start read part;
        left = rw (← left) did.left;
        rounds = let enough = so_far.rounds in rw length-append (omega arith);
      }

  pub run_input : r.ended ≡ true → RunEnd Input out
  unfolding round_answers
  run_input ended =
      let none = eqb-true (length did.part) 0 (sym did.ended ∙ ended) in
      last did.part none did.answers
    where
      last : (part : List ℕ) → length part ≡ 0 → Holds r.written out (round_answers s (take n old) part) → RunEnd Input out
      last (b ∷ bs) none h = absurd (omega arith)
      last [] none h =
          let read = so_far.read in
          let same : ending s (take n old) ≡ ending (standing_after start (cut read).lines) (cut read).rest =
          ap (ending s) so_far.left.same ∙ ending_kept s (cut read).rest ∙ ap (λ x. ending x (cut read).rest) so_far.stands in
          record { read = read; because = (r.written, rw (← same) h) }

pub run_rounds : (s : Standing) (n : ℕ) (buffer : List ℕ) (rounds_left : ℕ) → Reached s n buffer rounds_left → (0 < rounds_left → ⊥)
    → (out : List ℕ) → RunEnd Rounds out
run_rounds s n buffer rounds_left so_far h out =
    let enough = so_far.rounds in
    record { read = so_far.read; because = omega arith }
