-- The call in a line: "caller 2 digits, operation 2, a, b, c 8 each (28 digits)".
use Rattle.std.specs.Prelude.{ℕ, List}
use Rattle.rules.specs.declared.Call.{Call}
use Rattle.digits.specs.Digits.{field}

abbrev pub call_length : ℕ
call_length = 28

unfoldable pub call_in : List ℕ → Call
call_in line = record { caller = field 2 0 line; operation = field 2 2 line; a = field 8 4 line; b = field 8 12 line; c = field 8 20 line }
