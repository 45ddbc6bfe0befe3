-- Laws of what one line asks for and does: a call line, a later line, a line that is too long.
use Rattle.std.proofs.Common.{ℕ, ◌<◌, ◌≡◌, refl, sym, ◌∙◌, Bool, true, false, ◌&&◌, List, Some, eqb, length}
use borrow.Author.Tests.{lt-leb}
use Rattle.rules.specs.declared.Table.{Table}
use Rattle.rules.specs.Words.{every}
use Rattle.digits.specs.Digits.{is_digit}
use Rattle.lines.specs.Ends.{longest}
use Rattle.frames.specs.Calls.{call_length, call_in}
use Rattle.bench_lines.specs.declared.start.Standing.{Standing}
use Rattle.bench_lines.specs.First.{plain, first_reasons, first_done}
use Rattle.bench_lines.specs.Steps.{call_line, too_long, line_done, request_in, request_done}

-- ---- what a line asks for

pub call_requested : (line : List ℕ) → length line ≡ call_length → every is_digit line ≡ true → request_in line ≡ Some (call_in line)
unfolding request_in plain
call_requested line long digits = simp (long, digits)

-- ---- what that does

-- a later line does what it asks for
pub later_done : (t : Table) (line : List ℕ) → request_done t (request_in line) ≡ call_line t line
unfolding request_done request_in call_line
later_done t line = go (plain line && eqb (length line) call_length) refl
  where
    go : (b : Bool) → (plain line && eqb (length line) call_length) ≡ b → request_done t (request_in line) ≡ call_line t line
    go true e = rw e refl
    go false e = rw e refl

-- lines that are too long are all alike
pub too_long_done : (s : Standing) (line : List ℕ) → longest < length line → too_long s ≡ line_done s line
unfolding too_long line_done call_line first_done first_reasons plain
too_long_done s line h = simp (lt-leb (length line) longest h)

pub long_alike : (s : Standing) (l m : List ℕ) → longest < length l → longest < length m → line_done s l ≡ line_done s m
long_alike s l m h k = sym (too_long_done s l h) ∙ too_long_done s m k
