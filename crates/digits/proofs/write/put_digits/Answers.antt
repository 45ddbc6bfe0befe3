-- The digits still to be written, and behind them those that stand: at the start there are none of the one, at the end none of the other.
use Rattle.std.proofs.Common.{rules}
use Rattle.digits.proofs.Put.{put_start, put_again, put_end}
use Rattle.digits.proofs.write.put_digits.Goals as goal

pub loop-i-init : goal.loop-i-init
loop-i-init c = search (put_start, rules)

pub loop-i-preserved : goal.loop-i-preserved
loop-i-preserved c = search (put_again, rules)

pub returns : goal.returns
returns c = search (put_end, rules)
