-- The digits still to be written, and behind them those that stand, are the digits of the number.
use Rattle.std.proofs.Common.{◌≡◌, ◌++◌, length, drop}
use Rattle.digits.specs.Digits.{digits}
use Rattle.digits.proofs.write.put_digits.Given as goal

abbrev pub invariant-loop-i : goal.invariant-loop-i
invariant-loop-i l = digits (length l.initial.out) l.n ≡ digits l.i l.rest ++ drop l.i l.out
