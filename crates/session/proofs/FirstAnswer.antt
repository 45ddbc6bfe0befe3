-- Laws of the first line's answer, test by test as the code has them.
use Rattle.std.proofs.Common.{ℕ, ◌<◌, ◌≤◌, ◌≡◌, refl, Bool, true, false, List, length, Some, None}
use borrow.Author.Tests.{le-leb, lt-leb}
use Rattle.rules.specs.declared.Table.{Table}
use Rattle.frames.specs.Answers.{answer_length, answer_line, placed}
use Rattle.bench_lines.specs.declared.first.FirstLine.{FirstLine}
use Rattle.bench_lines.specs.Start.{standing}
use Rattle.bench_lines.specs.Places.{first_line_at}
use Rattle.session.specs.declared.feed.Progress.{Progress}
use Rattle.session.specs.Feed.{progress_of, answers_first, first_progress, first_out}

module _ (t : Table) (begun : Bool) (input old : List ℕ) (r : Progress) where
  abbrev Answered : List ℕ → Type 0
  Answered new = (r ≡ first_progress (standing t begun) (length old) input) × (new ≡ first_out (standing t begun) input old)

  pub first_begun : begun ≡ true → r ≡ progress_of t true 0 0 → Answered old
  unfolding answers_first first_progress first_out
  first_begun b e = rw b (e, refl)

  pub first_no_room : begun ≡ false → length old < answer_length → r ≡ progress_of t false 0 0 → Answered old
  unfolding answers_first first_progress first_out
  first_no_room b l e = rw (b, lt-leb answer_length (length old) l) (e, refl)

  module _ (b : begun ≡ false) (l : answer_length ≤ length old) where
    pub first_no_line : None ≡ first_line_at input → r ≡ progress_of t false 0 0 → Answered old
    unfolding answers_first first_progress first_out
    first_no_line e k = rw (b, le-leb answer_length (length old) l, ← e) (k, refl)

    pub first_written : (line : FirstLine) → Some line ≡ first_line_at input → (new : List ℕ) → new ≡ placed 0 (answer_line line.done.answer) old
        → r ≡ progress_of line.done.table true line.next answer_length → Answered new
    unfolding answers_first first_progress first_out
    first_written line e new k f = rw (b, le-leb answer_length (length old) l, ← e) (f, k)
