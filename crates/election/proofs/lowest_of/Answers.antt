-- The empty word says that there is none; of any other the lowest bit is the lowest number.
use Rattle.std.proofs.Common.{◌∙◌, arith}
use Rattle.rules.specs.Numbers.{task_room}
use Rattle.election.specs.Words.{word_bits}
use Rattle.election.proofs.Words.{empty_is, trailing_is}
use Rattle.election.proofs.lowest_of.Goals as goal

pub returns-then-w-eq0 : goal.returns-then-w-eq0
returns-then-w-eq0 c = empty_is task_room _ c.ready_word-w.ensures (omega arith) c.if-w-eq0.true

pub returns : goal.returns
returns c = c.lowest_bit.ensures ∙ trailing_is task_room _ c.ready_word-w.ensures (omega arith) word_bits (omega arith) c.if-w-eq0.false
