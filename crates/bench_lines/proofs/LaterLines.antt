-- Laws of a later line at a place: a call line that stands there is the line that a reader would find, and any other line asks for nothing.
use Rattle.std.proofs.Common.{ℕ, zero, suc, ◌+◌, ◌-◌, ◌<◌, ◌≤◌, ◌≡◌, refl, sym, ap, ◌∙◌, Bool, true, false, ◌&&◌, List, [], ◌∷◌, arith, le_of_suc-le-suc, eqb, leb, length, take, drop, get_or, length-drop, get_or-drop, length-take-le, Option, Some, None, option_map}
use mathlib.Core.Bool.{false≢true}
use borrow.Author.Tests.{le-leb, eq-eqb, ne_eqb, eqb-true, leb-true}
use Rattle.rules.specs.declared.Call.{Call}
use Rattle.rules.specs.Words.{every}
use Rattle.rules.specs.Queues.{before}
use Rattle.rules.proofs.Bools.{and_left, and_right, both}
use Rattle.lines.specs.declared.ends.Line.{Line}
use Rattle.lines.specs.declared.ends.Line.TheVariants.{Whole, TooLong, Unended, Nothing}
use Rattle.lines.specs.Ends.{line_feed, longest, line_in, line_at, part}
use Rattle.lines.proofs.Within.{whole_within}
use Rattle.digits.specs.Digits.{is_digit}
use Rattle.frames.specs.Calls.{call_length, call_in}
use Rattle.frames.specs.CallLine.{call_line_at, request_at}
use Rattle.bench_lines.specs.First.{plain}
use Rattle.bench_lines.specs.Steps.{request_in}
use Rattle.bench_lines.specs.Places.{next_place, later_line_with, later_line_by, later_line_at}
use Rattle.bench_lines.proofs.LineDone.{call_requested}

-- ---- a call line

digit_no_feed : (b : ℕ) → is_digit b ≡ true → eqb b line_feed ≡ false
digit_no_feed b h = ne_eqb b line_feed (λ e. false≢true (rw e at h))

before_behind : (n : ℕ) (l : List ℕ) → every is_digit (take n l) ≡ true → get_or l n 0 ≡ line_feed → n < length l → before line_feed l ≡ n
unfolding before every
before_behind n [] d e h = absurd (omega arith)
before_behind zero (b ∷ bs) d e h = rw (eq-eqb b line_feed e)
before_behind (suc n) (b ∷ bs) d e h =
    let here = digit_no_feed b (and_left (is_digit b) (every is_digit (take n bs)) d) in
    let rest = before_behind n bs (and_right (is_digit b) (every is_digit (take n bs)) d) e (le_of_suc-le-suc h) in
    rw (here, rest)

-- what the definition's three tests say
record CallThere (input : List ℕ) (at : ℕ) : Type 0 where
  room : at + suc call_length ≤ length input
  line_feed : get_or input (at + call_length) 0 ≡ line_feed
  digits : every is_digit (take call_length (drop at input)) ≡ true

call_there : (input : List ℕ) (at : ℕ) → call_line_at input at ≡ true → CallThere input at
unfolding call_line_at
call_there input at h =
    let fits : Bool = leb (at + suc call_length) (length input) in
    let ends : Bool = eqb (get_or input (at + call_length) 0) line_feed in
    let all : Bool = every is_digit (part at (at + call_length) input) in
    let rest = and_right fits (ends && all) h in
    let same : at + call_length - at ≡ call_length = omega arith in
    record {
      room = leb-true (at + suc call_length) (length input) (and_left fits (ends && all) h);
      line_feed = eqb-true (get_or input (at + call_length) 0) line_feed (and_left ends all rest);
      digits = rw same at (and_right ends all rest);
    }

-- the reader finds the same line
module _ (input : List ℕ) (at : ℕ) (c : CallThere input at) where
  line_before : before line_feed (drop at input) ≡ call_length
  line_before =
      before_behind call_length (drop at input) c.digits (get_or-drop at input call_length 0 ∙ c.line_feed)
      (omega (arith, length-drop at input, c.room))

  line_there : line_at input at ≡ Whole at (at + call_length) (at + call_length + 1)
  unfolding line_at line_in
  line_there =
      let long = length-drop at input in
      let some : eqb (length (drop at input)) 0 ≡ false = ne_eqb (length (drop at input)) 0 (λ e. omega (arith, c.room)) in
      let ended : eqb call_length (length (drop at input)) ≡ false = ne_eqb call_length (length (drop at input)) (λ e. omega (arith, c.room)) in
      rw (line_before, some, ended)

  line_requests : request_in (part at (at + call_length) input) ≡ Some (call_in (part at (at + call_length) input))
  line_requests =
      let same : at + call_length - at ≡ call_length = omega arith in
      let fits : call_length ≤ length (drop at input) = omega (arith, length-drop at input, c.room) in
      rw same (call_requested (take call_length (drop at input)) (length-take-le call_length (drop at input) fits) c.digits)

-- ---- any other line

-- a whole line that is no call line at its place asks for nothing
pub no_call_line : (input : List ℕ) (at from to next : ℕ) → call_line_at input at ≡ false → line_at input at ≡ Whole from to next
    → request_in (part from to input) ≡ None
unfolding request_in plain call_line_at
no_call_line input at from to next other found = go (plain line && eqb (length line) call_length) refl
  where
    line : List ℕ
    line = part from to input

    go : (b : Bool) → (plain line && eqb (length line) call_length) ≡ b → request_in line ≡ None
    go false e = rw e refl
    go true e =
        let w = whole_within input at from to next (line_at input at) refl found in
        let so-long : length line ≡ call_length = eqb-true (length line) call_length (and_right (plain line) _ e) in
        let digits : every is_digit line ≡ true = and_right (leb (length line) longest) _ (and_left (plain line) _ e) in
        let many : length line ≡ to - from = length-take-le (to - from) (drop from input) (omega (arith, length-drop from input, w.inside, w.ended)) in
        let end : to ≡ at + call_length = omega (arith, w.begins, w.ordered) in
        let fits = le-leb (at + suc call_length) (length input) (omega (arith, w.inside, w.ended)) in
        let feed = eq-eqb (get_or input (at + call_length) 0) line_feed (rw end at w.line_feed) in
        let all : every is_digit (part at (at + call_length) input) ≡ true = rw (w.begins, end) at digits in
        absurd (false≢true (sym other ∙ both fits (both feed all)))

-- ---- as the code has it: what is asked for at the place, a call or nothing

module _ (input : List ℕ) (at : ℕ) where
  call_asked : (call : Call) → Some call ≡ request_at input at
      → (call_line_at input at ≡ true) × (call ≡ call_in (part at (at + call_length) input))
  unfolding request_at
  call_asked call e = go (call_line_at input at) refl
    where
      go : (b : Bool) → call_line_at input at ≡ b → (call_line_at input at ≡ true) × (call ≡ call_in (part at (at + call_length) input))
      go true k = (k, cc (rw k at e))
      go false k = absurd (cc (rw k at e))

  none_asked : None ≡ request_at input at → call_line_at input at ≡ false
  unfolding request_at
  none_asked e = go (call_line_at input at) refl
    where
      go : (b : Bool) → call_line_at input at ≡ b → call_line_at input at ≡ false
      go true k = absurd (cc (rw k at e))
      go false k = k

  pub later_room : (call : Call) → Some call ≡ request_at input at → at + suc call_length ≤ length input
  later_room call e = (call_there input at (call_asked call e).0).room

  pub later_call : (call : Call) → Some call ≡ request_at input at → Some (later_line_with (Some call) (at + suc call_length)) ≡ later_line_at input at
  unfolding later_line_at
  later_call call e =
      let there = call_there input at (call_asked call e).0 in
      let place : at + suc call_length ≡ at + call_length + 1 = omega arith in
      rw ((call_asked call e).1, place, line_there input at there, line_requests input at there) refl

  asks : None ≡ request_at input at → (l : Line) → line_at input at ≡ l → later_line_by input l ≡ option_map (later_line_with None) (next_place l)
  asks e (Whole from to next) f = ap (λ r. Some (later_line_with r next)) (no_call_line input at from to next (none_asked e) f)
  asks e (TooLong next) f = refl
  asks e Unended f = refl
  asks e Nothing f = refl

  pub later_other : None ≡ request_at input at → (l : Line) → l ≡ line_at input at → (o : Option ℕ) → o ≡ next_place l
      → option_map (later_line_with None) o ≡ later_line_at input at
  unfolding later_line_at
  later_other e l f o k = rw (k, f) (sym (asks e (line_at input at) refl))
