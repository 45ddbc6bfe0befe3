-- Laws of the first line, by what the reader found.
use Rattle.std.proofs.Common.{ℕ, ◌≡◌, sym, ap, ◌∙◌, ◌⊎◌, inl, inr, List, Some, None, Result, Ok, Err, MatchResult}
use Rattle.rules.specs.declared.Done.{Done}
use Rattle.lines.specs.declared.ends.Line.{Line}
use Rattle.lines.specs.declared.ends.Line.TheVariants.{Whole, TooLong, Unended, Nothing}
use Rattle.lines.specs.Ends.{line_at, part}
use Rattle.rules.specs.declared.Refusal.{Refusal}
use Rattle.rules.specs.Statuses.{number_of}
use Rattle.bench_lines.specs.Start.{first_refused, done_or_refused}
use Rattle.bench_lines.specs.First.{first_done}
use Rattle.bench_lines.specs.Places.{first_line_with, first_line_by, first_line_at}

-- as `unwrap_or_else` gives it
pub read_done : (r : Result Done Refusal) (d : Done) → MatchResult r (λ x. d ≡ x) (λ reason. d ≡ first_refused (number_of reason)) → d ≡ done_or_refused r
read_done (Ok x) d h = h
read_done (Err reason) d h = h

module _ (input : List ℕ) (l : Line) (e : l ≡ line_at input 0) where
  found : (l' : Line) → l ≡ l' → first_line_by input l' ≡ first_line_at input
  unfolding first_line_at
  found l' k = ap (first_line_by input) (sym k ∙ e)

  pub first_whole : (from to next : ℕ) → l ≡ Whole from to next → (d : Done) → d ≡ first_done (part from to input)
      → Some (first_line_with d next) ≡ first_line_at input
  first_whole from to next k d h = ap (λ x. Some (first_line_with x next)) h ∙ found (Whole from to next) k

  pub first_too_long : (next : ℕ) → l ≡ TooLong next → (d : Done) → d ≡ first_refused 21 → Some (first_line_with d next) ≡ first_line_at input
  first_too_long next k d h = ap (λ x. Some (first_line_with x next)) h ∙ found (TooLong next) k

  pub first_none : (l ≡ Unended) ⊎ (l ≡ Nothing) → None ≡ first_line_at input
  first_none h = elim h [ inl k ↦ found Unended k | inr k ↦ found Nothing k ]
