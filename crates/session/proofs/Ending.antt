-- Laws of the end of the input: nothing is left, there is no room, or one answer is written.
use Rattle.std.proofs.Common.{ℕ, ◌<◌, ◌≤◌, ◌≡◌, refl, Bool, true, false, List, [], ◌∷◌, arith, leb, length}
use borrow.Author.Tests.{le-leb, lt-leb, leb-true}
use Rattle.frames.specs.Answers.{answer_length, answer_line, placed}
use Rattle.frames.proofs.Written.{answer_length_lem}
use Rattle.bench_lines.specs.declared.start.Standing.{Standing}
use Rattle.bench_lines.specs.Steps.{malformed}
use Rattle.session.specs.Ending.{ending, ending_length}

pub ending_none : (s : Standing) (rest out : List ℕ) → length rest ≡ 0 → (0 ≡ ending_length s rest (length out)) × (out ≡ placed 0 (ending s rest) out)
unfolding ending_length ending placed
ending_none s [] out h = (simp (le-leb 0 (length out) (omega arith)), simp (le-leb 0 (length out) (omega arith)))
ending_none s (b ∷ bs) out h = absurd (omega arith)

pub ending_no_room : (s : Standing) (rest out : List ℕ) → (length rest ≡ 0 → ⊥) → length out < answer_length
    → (0 ≡ ending_length s rest (length out)) × (out ≡ placed 0 (ending s rest) out)
unfolding ending_length ending placed
ending_no_room s [] out n h = absurd (n refl)
ending_no_room s (b ∷ bs) out n h = (simp (answer_length_lem, lt-leb answer_length (length out) h), simp (answer_length_lem, lt-leb answer_length (length out) h))

pub ending_some : (s : Standing) (rest out : List ℕ) → (length rest ≡ 0 → ⊥) → answer_length ≤ length out
    → (answer_length ≡ ending_length s rest (length out)) × (placed 0 (answer_line (malformed s.table).answer) out ≡ placed 0 (ending s rest) out)
unfolding ending_length ending
ending_some s [] out n h = absurd (n refl)
ending_some s (b ∷ bs) out n h = (simp (answer_length_lem, le-leb answer_length (length out) h), refl)

pub ending_within : (s : Standing) (rest : List ℕ) (room r : ℕ) → r ≡ ending_length s rest room → r ≤ room
unfolding ending_length
ending_within s rest room r e = rw e (go (leb (length (ending s rest)) room) refl)
  where
    go : (b : Bool) → leb (length (ending s rest)) room ≡ b → ending_length s rest room ≤ room
    go true h = rw h (leb-true (length (ending s rest)) room h)
    go false h = rw h (omega arith)
