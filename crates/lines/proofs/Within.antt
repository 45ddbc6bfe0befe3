-- A whole line begins at its place, and it and its line feed lie within the input.
use Rattle.std.proofs.Common.{ℕ, ◌+◌, ◌<◌, ◌≤◌, ◌≡◌, refl, sym, ◌∙◌, Bool, true, false, cond, List, arith, eqb, ltb, length, drop, get_or, length-drop, get_or-drop}
use borrow.Author.Tests.{eqb-false}
use Rattle.rules.specs.Queues.{before}
use Rattle.rules.proofs.Retrieve.{before_le, before_here}
use Rattle.lines.specs.declared.ends.Line.{Line}
use Rattle.lines.specs.declared.ends.Line.TheVariants.{Whole, TooLong, Unended, Nothing}
use Rattle.lines.specs.Ends.{line_feed, longest, line_in, line_at}

pub record Within (input : List ℕ) (at from to next : ℕ) : Type 0 where
  pub begins : from ≡ at
  pub line_feed : get_or input to 0 ≡ line_feed
  pub ordered : from ≤ to
  pub ended : to < next
  pub inside : next ≤ length input

module _ (input : List ℕ) (at from to next : ℕ) where
  pub whole_within : (l : Line) → l ≡ line_at input at → l ≡ Whole from to next → Within input at from to next
  unfolding line_at line_in
  whole_within l e k = go (eqb (length rest) 0) (eqb here (length rest)) (ltb longest here) refl (sym e ∙ k)
    where
      rest : List ℕ
      rest = drop at input

      here : ℕ
      here = before line_feed rest

      go : (none unended long : Bool) → eqb here (length rest) ≡ unended
          → cond none Nothing (cond unended Unended (cond long (TooLong (at + here + 1)) (Whole at (at + here) (at + here + 1))))
          ≡ Whole from to next
          → Within input at from to next
      go true unended long h f = let z : ◌≡◌ {A = ℕ} 0 1 = cc in absurd (omega arith)
      go false true long h f = let z : ◌≡◌ {A = ℕ} 0 1 = cc in absurd (omega arith)
      go false false true h f = let z : ◌≡◌ {A = ℕ} 0 1 = cc in absurd (omega arith)
      go false false false h f =
          let first : at ≡ from = cc in
          let last : at + here ≡ to = cc in
          let behind : at + here + 1 ≡ next = cc in
          let some = eqb-false here (length rest) h in
          let before-end : here < length rest = omega (arith, before_le line_feed rest) in
          record {
            begins = omega arith;
            line_feed = rw (← last) (sym (get_or-drop at input here 0) ∙ before_here line_feed rest before-end);
            ordered = omega arith;
            ended = omega arith;
            inside = omega (arith, length-drop at input);
          }
