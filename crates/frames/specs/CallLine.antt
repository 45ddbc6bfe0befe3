-- A call line that stands at a place, and what is asked for there.
use Rattle.std.specs.Prelude.{ℕ, suc, ◌+◌, Bool, cond, ◌&&◌, List, eqb, leb, length, get_or, Option, Some, None}
use Rattle.rules.specs.declared.Call.{Call}
use Rattle.rules.specs.Words.{every}
use Rattle.lines.specs.Ends.{line_feed, part}
use Rattle.digits.specs.Digits.{is_digit}
use Rattle.frames.specs.Calls.{call_length, call_in}

-- "a call line": 28 digits, and its line feed behind them
unfoldable pub call_line_at : List ℕ → ℕ → Bool
call_line_at input at =
    leb (at + suc call_length) (length input)
    && (eqb (get_or input (at + call_length) 0) line_feed && every is_digit (part at (at + call_length) input))

-- what is asked for there: the call, where a call line stands there
unfoldable pub request_at : List ℕ → ℕ → Option Call
request_at input at = cond (call_line_at input at) (Some (call_in (part at (at + call_length) input))) None
