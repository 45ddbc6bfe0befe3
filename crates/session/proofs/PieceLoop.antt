-- Laws of the loop over the lines of a piece: what is done and what is ahead make the whole, from line to line.
use Rattle.std.proofs.Common.{ℕ, zero, suc, ◌+◌, ◌*◌, ◌-◌, ◌/◌, ◌≤◌, ◌≡◌, refl, sym, ap, ◌∙◌, Bool, true, false, not, true≢false, List, [], ◌∷◌, ◌++◌, append_assoc, append-nil, arith, leb, length, take, drop, length-append, length-drop, take-append-drop, take_at, drop_at, drop-drop, length-take-le, Option, Some, None}
use lib.Seq.{take-nil}
use borrow.Author.Tests.{le-leb, leb-true, leb-false, not-true, not-false}
use Rattle.rules.specs.declared.Call.{Call}
use Rattle.rules.specs.declared.Table.{Table}
use Rattle.rules.specs.declared.Answer.{Answer}
use Rattle.rules.specs.declared.Done.{Done}
use Rattle.rules.specs.Numbers.{store_size}
use Rattle.rules.specs.Validity.{valid}
use Rattle.theorems.proofs.Kept.{store_kept}
use Rattle.tables.specs.declared.front.Front.{Front}
use Rattle.tables.specs.declared.front.Store.{Store}
use Rattle.tables.specs.declared.front.FrontDone.{FrontDone}
use Rattle.tables.specs.Fronts.{whole, front_of, store_of}
use Rattle.frames.specs.Answers.{answer_length, answer_line, placed}
use Rattle.frames.proofs.Written.{answer_length_lem}
use Rattle.bench_lines.specs.declared.start.Standing.{Standing}
use Rattle.bench_lines.specs.declared.first.FirstLine.{FirstLine}
use Rattle.bench_lines.specs.declared.later.LaterLine.{LaterLine}
use Rattle.bench_lines.specs.Start.{standing}
use Rattle.bench_lines.specs.Steps.{malformed, request_done}
use Rattle.bench_lines.specs.Assuming.{IsDone}
use Rattle.bench_lines.specs.Places.{first_line_at, later_line_at}
use Rattle.bench_lines.proofs.Assuming.{still_known}
use Rattle.session.specs.declared.feed.Progress.{Progress}
use Rattle.session.specs.Lines.{cut, after, answers_to, standing_after}
use Rattle.session.specs.Feed.{fitting, taken, ahead, over, progress_of, progress_after, later_progress, later_out, answers_first, come_first, written_first, first_progress, first_out, feed_progress, piece_answers}
use Rattle.session.proofs.NextLines.{Took, first_took, first_none, later_took, later_none}

pub answers_length : (s : Standing) (lines : List (List ℕ)) → length (answers_to s lines) ≡ answer_length * length lines
unfolding answers_to
answers_length s [] = refl
answers_length s (line ∷ lines) = rw (length-append, answer_length_lem, answers_length (after s line) lines) (omega arith)

-- ---- on the way: the session stands at s, `written` bytes of `out` are answers, and `left` lines more may be answered from `at` on. Behind those
-- lines it will have come to p, with the bytes `said` in front; `old` is what the buffer had before.

pub record Going (p : Progress) (said old input : List ℕ) (s : Standing) (at written left : ℕ) (out : List ℕ) : Type 0 where
  pub comes_to : progress_after s at written (ahead input at left) ≡ p
  pub answers : take written out ++ answers_to s (ahead input at left) ≡ said
  pub tail : drop written out ≡ drop written old
  pub room : written + answer_length * left ≤ length old
  pub size : length out ≡ length old

-- from anywhere: it comes to what lies ahead there
abbrev pub GoingFrom : List ℕ → Standing → ℕ → ℕ → ℕ → List ℕ → Standing → ℕ → ℕ → ℕ → List ℕ → Type 0
GoingFrom input s at written left out =
    Going (progress_after s at written (ahead input at left)) (take written out ++ answers_to s (ahead input at left)) out input

pub going_from : (input : List ℕ) (s : Standing) (at written left : ℕ) (out : List ℕ) → written + answer_length * left ≤ length out
    → GoingFrom input s at written left out s at written left out
going_from input s at written left out h = record { comes_to = refl; answers = refl; tail = refl; room = h; size = refl }

-- from the start of a piece: it comes to what fits
abbrev pub GoingOn : Standing → List ℕ → List ℕ → Standing → ℕ → ℕ → ℕ → List ℕ → Type 0
GoingOn s input old = Going (feed_progress s (length old) input) (answers_to s (fitting (length old) input)) old input

pub going_start : (s : Standing) (input old : List ℕ) → GoingOn s input old s 0 0 (length old / answer_length) old
unfolding fitting feed_progress
going_start s input old = going_from input s 0 0 (length old / answer_length) old (omega arith)

-- ---- a line is answered

module _ {p : Progress} {said old input : List ℕ} {s : Standing} {at written left : ℕ} {out : List ℕ} (g : Going p said old input s at written left out) where
  -- an answer line goes behind those that stand
  module _ (a : Answer) (fits : written + answer_length ≤ length out) where
    more : placed written (answer_line a) out ≡ (take written out ++ answer_line a) ++ drop (written + answer_length) out
    unfolding placed
    more = rw (answer_length_lem a, le-leb (written + answer_length) (length out) fits)

    front_long : length (take written out ++ answer_line a) ≡ written + answer_length
    front_long = simp (length-append, length-take-le written out (omega arith), answer_length_lem)

    more_front : take (written + answer_length) (placed written (answer_line a) out) ≡ take written out ++ answer_line a
    more_front = rw more (take_at (take written out ++ answer_line a) (drop (written + answer_length) out) (written + answer_length) front_long)

    more_tail : drop (written + answer_length) (placed written (answer_line a) out) ≡ drop (written + answer_length) out
    more_tail = rw more (drop_at (take written out ++ answer_line a) (drop (written + answer_length) out) (written + answer_length) front_long)

    more_long : length (placed written (answer_line a) out) ≡ length out
    more_long = rw more (simp (length-append, length-take-le written out (omega arith), answer_length_lem, length-drop) (omega arith))

  -- `new` is what the answer's writing left
  pub going_on : (d : Done) (next : ℕ) → Took s input at d next → (fewer : ℕ) → fewer + 1 ≡ left
      → (new : List ℕ) → new ≡ placed written (answer_line d.answer) out
      → Going p said old input (standing d.table true) next (written + answer_length) fewer new
  unfolding answers_to standing_after taken
  going_on d next k m h new is = rw is go
    where
      go : Going p said old input (standing d.table true) next (written + answer_length) m (placed written (answer_line d.answer) out)
      go =
          let one : left ≡ suc m = omega arith in
          let rest = ahead input next m in
          let fits : written + answer_length ≤ length out = omega (arith, g.room, g.size) in
          let lines : ahead input at left ≡ k.line ∷ rest = rw (one, k.first.ended) in
          let place : next + taken rest ≡ at + (suc (length k.line) + taken rest) = omega (arith, k.first.moved) in
          let count : written + answer_length + answer_length * length rest ≡ written + answer_length * suc (length rest) = omega arith in
          record {
            comes_to = rw (place, count, k.did) (rw lines at g.comes_to);
            answers =
                rw (more_front d.answer fits)
                (append_assoc (take written out) (answer_line d.answer) _ ∙ rw k.did (rw lines at g.answers));
            tail =
                more_tail d.answer fits ∙ sym (drop-drop answer_length written out) ∙ ap (drop answer_length) g.tail
                ∙ drop-drop answer_length written old;
            room = omega (arith, g.room);
            size = more_long d.answer fits ∙ g.size;
          }

  -- ---- nothing is ahead

  pub going_progress : ahead input at left ≡ [] → record { standing = s; next = at; written = written } ≡ p
  unfolding standing_after taken
  going_progress none =
      let place : at ≡ at + 0 = omega arith in
      let count : written ≡ written + answer_length * 0 = omega arith in
      ap (λ x. record { standing = s; next = x; written = written }) place ∙ ap (λ x. record { standing = s; next = at + 0; written = x }) count
      ∙ rw none at g.comes_to

  pub going_written : ahead input at left ≡ [] → out ≡ said ++ drop p.written old
  unfolding answers_to
  going_written none =
      let count : written ≡ p.written = ap (λ x. x.written) (going_progress none) in
      let front : take written out ≡ said = sym (append-nil (take written out)) ∙ rw none at g.answers in
      rw (← count, ← front, ← g.tail) (sym (take-append-drop written out))

-- where there is no room
pub ahead_no_room : (input : List ℕ) (at left : ℕ) → left ≤ 0 → ahead input at left ≡ []
ahead_no_room input at zero h = refl
ahead_no_room input at (suc left) h = absurd (omega arith)

-- nor where no line is ended
ahead_no_line : (input : List ℕ) (at left : ℕ) → (cut (drop at input)).lines ≡ [] → ahead input at left ≡ []
ahead_no_line input at left h = rw h (take-nil left)

pub later_no_line : (input : List ℕ) (at left : ℕ) (o : Option LaterLine) → o ≡ later_line_at input at → ((line : LaterLine) → o ≡ Some line → ⊥)
    → ahead input at left ≡ []
later_no_line input at left None e n = ahead_no_line input at left (later_none input at e)
later_no_line input at left (Some line) e n = absurd (n line refl)

-- ---- a whole piece: its first line, and the later ones

-- what is the same from a place on is the same from a later one on
still_tail : (from to : ℕ) (xs ys : List ℕ) → from ≤ to → drop from xs ≡ drop from ys → drop to xs ≡ drop to ys
still_tail from to xs ys h e =
    let split : from + (to - from) ≡ to = omega arith in
    let parts : (zs : List ℕ) → drop (to - from) (drop from zs) ≡ drop to zs = λ zs. rw (drop-drop, split) refl in
    sym (parts xs) ∙ ap (drop (to - from)) e ∙ parts ys

module _ (s : Standing) (input old : List ℕ) where
  -- what was written is as long as the progress says
  answers_counted : (feed_progress s (length old) input).written ≡ length (piece_answers s (length old) input)
  unfolding feed_progress piece_answers
  answers_counted = let many = answers_length s (fitting (length old) input) in omega arith

  -- what is so where the first line is answered, and where it is not though the session stands before it
  line_first : (line : FirstLine) → answers_first s (length old) input ≡ Some line
      → (s.begun ≡ false) × ((answer_length ≤ length old) × (Some line ≡ first_line_at input))
  unfolding answers_first
  line_first line e = go s.begun refl (leb answer_length (length old)) refl
    where
      go : (b : Bool) → s.begun ≡ b → (r : Bool) → leb answer_length (length old) ≡ r
          → (s.begun ≡ false) × ((answer_length ≤ length old) × (Some line ≡ first_line_at input))
      go true b r l = absurd (cc (rw b at e))
      go false b true l = (b, (leb-true answer_length (length old) l, sym (rw (b, l) at e)))
      go false b false l = absurd (cc (rw (b, l) at e))

  none_first : answers_first s (length old) input ≡ None → s.begun ≡ false → ahead input 0 (length old / answer_length) ≡ []
  unfolding answers_first
  none_first e b = go (leb answer_length (length old)) refl
    where
      go : (r : Bool) → leb answer_length (length old) ≡ r → ahead input 0 (length old / answer_length) ≡ []
      go true l = ahead_no_line input 0 (length old / answer_length) (first_none input (sym (rw (b, l) at e)))
      go false l = let short = leb-false answer_length (length old) l in ahead_no_room input 0 (length old / answer_length) (omega arith)

  -- by whether the first line is answered: o is how far it came, and `new` what its answer left
  first_goes : (a : Option FirstLine) → answers_first s (length old) input ≡ a → (o : Progress) (new : List ℕ) → o ≡ come_first s a
      → new ≡ written_first a old → GoingOn s input old o.standing o.next o.written ((length new - o.written) / answer_length) new
  first_goes (Some line) a o new e k =
      let is = line_first line a in
      let room = is.1.0 in
      let first = going_on (going_start s input old) line.done line.next (first_took s is.0 input line is.1.1) (length old / answer_length - 1) (omega arith) new k in
      let less : (length new - answer_length) / answer_length ≡ length old / answer_length - 1 = omega (arith, first.size) in
      rw (e, less) first
  first_goes None a o new e k =
      let same : (length old - 0) / answer_length ≡ length old / answer_length = omega arith in
      rw (e, k, same) (going_start s input old)

  -- where the session still stands before its first line, nothing is ahead
  none_ahead : (a : Option FirstLine) → answers_first s (length old) input ≡ a → (o : Progress) (new : List ℕ) → o ≡ come_first s a
      → new ≡ written_first a old → o.standing.begun ≡ false → ahead input o.next ((length new - o.written) / answer_length) ≡ []
  none_ahead (Some line) a o new e k n = absurd (true≢false (sym (ap (λ x. x.standing.begun) e) ∙ n))
  none_ahead None a o new e k n =
      let before : s.begun ≡ false = sym (ap (λ x. x.standing.begun) e) ∙ n in
      let same : (length old - 0) / answer_length ≡ length old / answer_length = omega arith in
      rw (e, k, same) (none_first a before)

  -- as the code has it
  module _ (o : Progress) (new : List ℕ) (e : o ≡ first_progress s (length old) input) (k : new ≡ first_out s input old) where
    going : GoingOn s input old o.standing o.next o.written ((length new - o.written) / answer_length) new
    unfolding first_progress first_out
    going = first_goes (answers_first s (length old) input) refl o new e k

    pub first_within : o.written ≤ length new
    first_within = omega (arith, going.room, going.size)

    abbrev Answered : Progress → List ℕ → Type 0
    Answered r last = (r ≡ feed_progress s (length old) input) × (last ≡ over (piece_answers s (length old) input) old)

    pub none_begun : not o.standing.begun ≡ true → Answered o new
    unfolding first_progress first_out piece_answers
    none_begun n =
        let none = none_ahead (answers_first s (length old) input) refl o new e k (not-true _ n) in
        (going_progress going none, rw (← answers_counted) (going_written going none))

    -- the later lines go on where the first left off
    pub later_answered : not o.standing.begun ≡ false → (r : Progress) (last : List ℕ)
        → r ≡ later_progress o.standing.table input o.next o.written (length new)
        → last ≡ later_out o.standing.table input o.next o.written new
        → Answered r last
    unfolding later_progress later_out piece_answers
    later_answered n r last f l =
        let g : GoingOn s input old (standing o.standing.table true) o.next o.written ((length new - o.written) / answer_length) new =
        rw (not-false o.standing.begun n) at going in
        let count = ap (λ x. x.written) g.comes_to in
        let tail = still_tail o.written (feed_progress s (length old) input).written new old (omega arith) g.tail in
        (f ∙ g.comes_to, l ∙ rw (g.answers, count, tail, answers_counted) refl)

-- ---- a later line, on a table whose store is lent

-- the store has its size, and whether the table is valid is known
pub record Known (known : Bool) (f : Front) (es cs : List ℕ) : Type 0 where
  pub sizes : (length es ≡ store_size) × (length cs ≡ store_size)
  pub right : known ≡ valid (whole f es cs)

request_long : (t : Table) (r : Option Call) → (length t.element ≡ store_size) × (length t.criterion ≡ store_size)
    → (length (request_done t r).table.element ≡ store_size) × (length (request_done t r).table.criterion ≡ store_size)
unfolding request_done malformed
request_long t (Some call) l = store_kept t call l
request_long t None l = l

-- d, es' and cs' are what the line with the request r did to it
abbrev pub Did : Front → List ℕ → List ℕ → Option Call → FrontDone → List ℕ → List ℕ → Type 0
Did f es cs = IsDone (whole f es cs)

module _ {f : Front} {es cs : List ℕ} (r : Option Call) {d : FrontDone} {es' cs' : List ℕ} (did : Did f es cs r d es' cs') where
  pub known_after : {known : Bool} → Known known f es cs → Known known d.front es' cs'
  known_after {known} k =
      record { sizes = rw (did.1.0, did.1.1) (request_long (whole f es cs) r k.sizes); right = still_known known (whole f es cs) r k.right did }

pub going_lent : {p : Progress} {said old input : List ℕ} {f : Front} {es cs : List ℕ} {at written left : ℕ} {out : List ℕ}
    → Going p said old input (standing (whole f es cs) true) at written left out
    → (l : LaterLine) → Some l ≡ later_line_at input at → (fewer : ℕ) → fewer + 1 ≡ left
    → {d : FrontDone} {es' cs' : List ℕ} → Did f es cs l.request d es' cs'
    → (new : List ℕ) → new ≡ placed written (answer_line d.answer) out
    → Going p said old input (standing (whole d.front es' cs') true) l.next (written + answer_length) fewer new
going_lent {input = input} {f = f} {es = es} {cs = cs} {at = at} g l is fewer h did new k =
    let done = request_done (whole f es cs) l.request in
    let took = later_took (whole f es cs) input at l is in
    rw (did.1.0, did.1.1, did.0) (going_on g done l.next took fewer h new (rw did.0 at k))

-- a table in its parts, where the loop begins
pub whole_again : (t : Table) (f : Front) (s : Store) → f ≡ front_of t → s ≡ store_of t → whole f s.element s.criterion ≡ t
whole_again t f s e k = rw (e, k) refl

-- ---- where the loop ends, the later lines are answered

module _ (input : List ℕ) (t₀ : Table) (at₀ written₀ : ℕ) (out₀ : List ℕ) (t : Table) (at written left : ℕ) (out : List ℕ)
    (g : GoingFrom input (standing t₀ true) at₀ written₀ ((length out₀ - written₀) / answer_length) out₀ (standing t true) at written left out)
    (none : ahead input at left ≡ []) where
  pub later_progress_lem : progress_of t true at written ≡ later_progress t₀ input at₀ written₀ (length out₀)
  unfolding later_progress
  later_progress_lem = going_progress g none

  pub later_written : out ≡ later_out t₀ input at₀ written₀ out₀
  unfolding later_out
  later_written = going_written g none
