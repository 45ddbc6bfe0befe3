-- Laws of what is left behind a line: a reader that has moved behind a line has ahead of it what stood behind the first line of what it had ahead.
use Rattle.std.proofs.Common.{ℕ, zero, suc, ◌+◌, ◌≤◌, ◌≡◌, refl, sym, ap, ◌∙◌, Bool, true, false, cond, List, [], ◌∷◌, arith, eqb, ltb, length, drop, length-drop, drop_of_length-le, drop-drop}
use lib.Seq.{drop-length}
use borrow.Author.Tests.{eqb-true}
use Rattle.lines.specs.declared.ends.Line.TheVariants.{Whole, TooLong, Unended, Nothing}
use Rattle.lines.specs.Ends.{longest, line_length, line_in, line_at}
use Rattle.lines.specs.Reading.{place_after, behind_line, behind_lines}

module _ (s : List ℕ) (at : ℕ) where
  pub behind_line_lem : drop (place_after s (line_at s at)) s ≡ behind_line (drop at s)
  unfolding line_at line_in
  behind_line_lem = go (eqb (length rest) 0) (eqb n (length rest)) (ltb longest n) refl refl
    where
      rest : List ℕ
      rest = drop at s

      n : ℕ
      n = line_length rest

      behind : drop (at + n + 1) s ≡ drop (n + 1) rest
      behind = let place : at + (n + 1) ≡ at + n + 1 = omega arith in rw (drop-drop, place)

      go : (none unended long : Bool) → eqb (length rest) 0 ≡ none → eqb n (length rest) ≡ unended
          → drop (place_after s (cond none Nothing (cond unended Unended (cond long (TooLong (at + n + 1)) (Whole at (at + n) (at + n + 1)))))) s ≡ drop (n + 1) rest
      go true unended long e f = drop-length s ∙ sym (drop_of_length-le rest {i = n + 1} (omega (arith, eqb-true (length rest) 0 e)))
      go false true long e f = drop-length s ∙ sym (drop_of_length-le rest {i = n + 1} (omega (arith, eqb-true n (length rest) f)))
      go false false true e f = behind
      go false false false e f = behind

-- behind one line more that is walked over, one fewer is still to be walked over
pub behind_more : (t : ℕ) (ahead next rest : List ℕ) → next ≡ behind_line ahead → behind_lines (suc t) ahead ≡ rest → behind_lines t next ≡ rest
behind_more t ahead next rest e k = ap (behind_lines t) e ∙ k

-- behind as many lines as there are bytes nothing is left, nor behind more
behind_all : (n : ℕ) (log : List ℕ) → length log ≤ n → behind_lines n log ≡ []
behind_all zero [] h = refl
behind_all zero (b ∷ bs) h = absurd (omega arith)
behind_all (suc n) log h = behind_all n (behind_line log) (rw length-drop (omega arith))

pub behind_past : (n : ℕ) (log : List ℕ) → length log ≤ n → behind_lines (length log) log ≡ behind_lines n log
behind_past n log h = behind_all (length log) log (omega arith) ∙ sym (behind_all n log h)
