-- The line that begins at a place is the first of those that are cut from there on, or there is none.
use Rattle.std.proofs.Common.{ℕ, suc, ◌+◌, ◌-◌, ◌<◌, ◌≤◌, ◌≡◌, refl, ap, ◌∙◌, Bool, true, false, cond, List, [], ◌∷◌, arith, eqb, ltb, length, take, drop, drop-drop, length-take-le, Some, None}
use borrow.Author.Tests.{eqb-true, eqb-false, ltb-true}
use Rattle.rules.specs.declared.Table.{Table}
use Rattle.rules.specs.declared.Done.{Done}
use Rattle.rules.specs.Queues.{before}
use Rattle.rules.proofs.Retrieve.{before_le}
use Rattle.lines.specs.declared.ends.Line.{Line}
use Rattle.lines.specs.declared.ends.Line.TheVariants.{Whole, TooLong, Unended, Nothing}
use Rattle.lines.specs.Ends.{line_feed, longest, line_in, line_at, part}
use Rattle.bench_lines.specs.declared.start.Standing.{Standing}
use Rattle.bench_lines.specs.declared.first.FirstLine.{FirstLine}
use Rattle.bench_lines.specs.declared.later.LaterLine.{LaterLine}
use Rattle.bench_lines.specs.Start.{standing, first_refused}
use Rattle.bench_lines.specs.First.{first_done}
use Rattle.bench_lines.specs.Steps.{too_long, line_done, request_in, request_done}
use Rattle.bench_lines.specs.Places.{first_line_with, first_line_by, first_line_at, later_line_with, later_line_by, later_line_at}
use Rattle.bench_lines.proofs.LineDone.{later_done, too_long_done}
use Rattle.session.specs.Lines.{cut}
use Rattle.session.proofs.Cuts.{cut_ended, cut_unended}

-- ---- what a reader finds, in terms of the lines that are cut

-- the line is the first of them, and the others begin behind it
pub record First (input : List ℕ) (at next : ℕ) (line : List ℕ) : Type 0 where
  pub ended : (cut (drop at input)).lines ≡ line ∷ (cut (drop next input)).lines
  pub moved : next ≡ at + suc (length line)

module _ (input : List ℕ) (at : ℕ) where
  abbrev n : ℕ
  n = before line_feed (drop at input)

  within : n ≤ length (drop at input)
  within = before_le line_feed (drop at input)

  -- a line that is too long is the first of them as well
  pub record Long (next : ℕ) : Type 0 where
    pub line : List ℕ
    pub first : First input at next line
    pub long : longest < length line

  abbrev pub Found : Line → Type 0
  Found (Whole from to next) = First input at next (part from to input)
  Found (TooLong next) = Long next
  Found Unended = (cut (drop at input)).lines ≡ []
  Found Nothing = (cut (drop at input)).lines ≡ []

  none_cut : n ≡ length (drop at input) → (cut (drop at input)).lines ≡ []
  none_cut h = ap (λ c. c.lines) (cut_unended (drop at input) h)

  module _ (h : n < length (drop at input)) where
    line_long : length (take n (drop at input)) ≡ n
    line_long = length-take-le n (drop at input) (omega arith)

    first_cut : First input at (at + n + 1) (take n (drop at input))
    first_cut =
        let place : at + suc n ≡ at + n + 1 = omega arith in
        let behind : drop (suc n) (drop at input) ≡ drop (at + n + 1) input = rw (drop-drop, place) in
        record {
          ended = ap (λ c. c.lines) (cut_ended (drop at input) h) ∙ ap (λ xs. take n (drop at input) ∷ (cut xs).lines) behind;
          moved = rw line_long (omega arith);
        }

    whole_cut : First input at (at + n + 1) (part at (at + n) input)
    whole_cut = let same : at + n - at ≡ n = omega arith in rw same first_cut

    long_cut : longest < n → Long (at + n + 1)
    long_cut k = record { line = take n (drop at input); first = first_cut; long = rw line_long k }

  pub found : Found (line_at input at)
  unfolding line_at line_in
  found = go (eqb (length (drop at input)) 0) refl
    where
      ended : eqb n (length (drop at input)) ≡ false → (b : Bool) → ltb longest n ≡ b
          → Found (cond b (TooLong (at + n + 1)) (Whole at (at + n) (at + n + 1)))
      ended e true k = long_cut (omega (arith, within, eqb-false n (length (drop at input)) e)) (ltb-true longest n k)
      ended e false k = whole_cut (omega (arith, within, eqb-false n (length (drop at input)) e))

      some : (b : Bool) → eqb n (length (drop at input)) ≡ b
          → Found (cond b Unended (cond (ltb longest n) (TooLong (at + n + 1)) (Whole at (at + n) (at + n + 1))))
      some true e = none_cut (eqb-true n (length (drop at input)) e)
      some false e = ended e (ltb longest n) refl

      go : (b : Bool) → eqb (length (drop at input)) 0 ≡ b
          → Found (cond b Nothing (cond (eqb n (length (drop at input))) Unended
          (cond (ltb longest n) (TooLong (at + n + 1)) (Whole at (at + n) (at + n + 1)))))
      go true e = none_cut (omega (arith, within, eqb-true (length (drop at input)) 0 e))
      go false e = some (eqb n (length (drop at input))) refl

-- ---- what is done with it

-- d is what the first of the lines does to a session that stands at s
pub record Took (s : Standing) (input : List ℕ) (at : ℕ) (d : Done) (next : ℕ) : Type 0 where
  pub line : List ℕ
  pub first : First input at next line
  pub did : d ≡ line_done s line

-- the first line of a session that stands before it
pub first_took : (s : Standing) → s.begun ≡ false → (input : List ℕ) (r : FirstLine) → Some r ≡ first_line_at input → Took s input 0 r.done r.next
unfolding first_line_at line_done too_long
first_took s b input r e = go (line_at input 0) (found input 0) e
  where
    go : (l : Line) → Found input 0 l → Some r ≡ first_line_by input l → Took s input 0 r.done r.next
    go (Whole from to next) f k =
        let is : r ≡ first_line_with (first_done (part from to input)) next = cc in
        rw is (record { line = part from to input; first = f; did = rw b refl })
    go (TooLong next) f k =
        let is : r ≡ first_line_with (first_refused 21) next = cc in
        let long : first_refused 21 ≡ too_long s = rw b refl in
        rw is (record { line = f.line; first = f.first; did = long ∙ too_long_done s f.line f.long })
    go Unended f k = absurd (cc)
    go Nothing f k = absurd (cc)

pub first_none : (input : List ℕ) → None ≡ first_line_at input → (cut input).lines ≡ []
unfolding first_line_at
first_none input e = go (line_at input 0) (found input 0) e
  where
    go : (l : Line) → Found input 0 l → None ≡ first_line_by input l → (cut input).lines ≡ []
    go (Whole from to next) f k = absurd (cc)
    go (TooLong next) f k = absurd (cc)
    go Unended f k = f
    go Nothing f k = f

-- a later line
pub later_took : (t : Table) (input : List ℕ) (at : ℕ) (r : LaterLine) → Some r ≡ later_line_at input at
    → Took (standing t true) input at (request_done t r.request) r.next
unfolding later_line_at line_done too_long request_done
later_took t input at r e = go (line_at input at) (found input at) e
  where
    go : (l : Line) → Found input at l → Some r ≡ later_line_by input l → Took (standing t true) input at (request_done t r.request) r.next
    go (Whole from to next) f k =
        let is : r ≡ later_line_with (request_in (part from to input)) next = cc in
        rw is (record { line = part from to input; first = f; did = later_done t (part from to input) })
    go (TooLong next) f k =
        let is : r ≡ later_line_with None next = cc in
        rw is (record { line = f.line; first = f.first; did = too_long_done (standing t true) f.line f.long })
    go Unended f k = absurd (cc)
    go Nothing f k = absurd (cc)

pub later_none : (input : List ℕ) (at : ℕ) → None ≡ later_line_at input at → (cut (drop at input)).lines ≡ []
unfolding later_line_at
later_none input at e = go (line_at input at) (found input at) e
  where
    go : (l : Line) → Found input at l → None ≡ later_line_by input l → (cut (drop at input)).lines ≡ []
    go (Whole from to next) f k = absurd (cc)
    go (TooLong next) f k = absurd (cc)
    go Unended f k = f
    go Nothing f k = f
