-- One reader gives the lines of a log in turn: at each place the first of those that are cut from there on, which is what the run rests on too.
use Rattle.std.proofs.Common.{ℕ, zero, suc, ◌+◌, ◌<◌, ◌≡◌, refl, sym, ap, ◌∙◌, List, [], ◌∷◌, Bool, true, false, eqb, length, drop, drop_of_length-le, drop-drop, arith}
use borrow.Author.Tests.{eqb-true, eqb-false}
use Rattle.rules.specs.Queues.{before}
use Rattle.rules.proofs.Retrieve.{before_le}
use Rattle.lines.specs.declared.ends.Line.{Line}
use Rattle.lines.specs.declared.ends.Line.TheVariants.{Whole, TooLong, Unended, Nothing}
use Rattle.lines.specs.Ends.{line_feed, line_at}
use Rattle.lines.specs.Reading.{place_after, behind_line}
use Rattle.session.specs.Lines.{Cut, cut}
use Rattle.session.specs.Walk.{Gives, GivesNone, Walks}
use Rattle.session.specs.Theorems.{ReaderWalks, OtherLinesLeft}
use Rattle.session.proofs.Cuts.{cut_ended, cut_unended}
use Rattle.session.proofs.NextLines.{Found, found}

abbrev first_of : List (List ℕ) → List ℕ
first_of [] = []
first_of (line ∷ lines) = line

module _ (log : List ℕ) where
  none : (at : ℕ) → (cut (drop at log)).lines ≡ [] → (l : Line) → Found log at l → GivesNone l
  none at e (Whole from to next) f = let one = ap length (sym e ∙ f.ended) in absurd (omega arith)
  none at e (TooLong next) f = let one = ap length (sym e ∙ f.first.ended) in absurd (omega arith)
  none at e Unended f = tt
  none at e Nothing f = tt

  one : (at : ℕ) (line : List ℕ) (lines : List (List ℕ)) → (cut (drop at log)).lines ≡ line ∷ lines
      → ((next : ℕ) → (cut (drop next log)).lines ≡ lines → Walks log next lines)
      → (l : Line) → Found log at l → Gives log l line × Walks log (place_after log l) lines
  one at line lines e others (Whole from to next) f =
      let same = sym f.ended ∙ e in
      (ap first_of same, others next (ap (drop 1) same))
  one at line lines e others (TooLong next) f =
      let same = sym f.first.ended ∙ e in
      let long = ap length (ap first_of same) in
      let more = f.long in
      (omega arith, others next (ap (drop 1) same))
  one at line lines e others Unended f = let none = ap length (sym f ∙ e) in absurd (omega arith)
  one at line lines e others Nothing f = let none = ap length (sym f ∙ e) in absurd (omega arith)

  walk : (lines : List (List ℕ)) (at : ℕ) → (cut (drop at log)).lines ≡ lines → Walks log at lines
  unfolding Walks
  walk [] at e = none at e (line_at log at) (found log at)
  walk (line ∷ lines) at e = one at line lines e (walk lines) (line_at log at) (found log at)

pub reader_walks : ReaderWalks
reader_walks log = walk log (cut log).lines 0 refl

-- ---- what is left of a log behind the lines that a reader has walked over

module _ (log : List ℕ) where
  abbrev first : ℕ
  first = before line_feed log

  -- behind the first line are the other lines
  one_less : (cut (behind_line log)).lines ≡ drop 1 (cut log).lines
  unfolding cut
  one_less = go (eqb first (length log)) refl
    where
      ended : first < length log → (cut (behind_line log)).lines ≡ drop 1 (cut log).lines
      ended h = let place : first + 1 ≡ suc first = omega arith in rw place (sym (ap (λ (c : Cut). drop 1 c.lines) (cut_ended log h)))

      unended : first ≡ length log → (cut (behind_line log)).lines ≡ drop 1 (cut log).lines
      unended h = rw (drop_of_length-le log {i = first + 1} (omega arith), cut_unended log h)

      go : (b : Bool) → eqb first (length log) ≡ b → (cut (behind_line log)).lines ≡ drop 1 (cut log).lines
      go true e = unended (eqb-true first (length log) e)
      go false e = ended (omega (arith, before_le line_feed log, eqb-false first (length log) e))

pub other_lines_left : OtherLinesLeft
other_lines_left zero log = refl
other_lines_left (suc n) log =
    let more : 1 + n ≡ suc n = omega arith in
    other_lines_left n (behind_line log) ∙ ap (drop n) (one_less log) ∙ drop-drop n 1 (cut log).lines ∙ ap (λ (k : ℕ). drop k (cut log).lines) more
