-- Each number's digits come to stand behind those before them, and the line feed behind them all.
use Rattle.std.proofs.Common.{rules, ◌∙◌, ap, arith, length}
use Rattle.frames.proofs.Written.{answer_written, answer_length_lem}
use Rattle.frames.proofs.answer.fill.Goals as goal

pub returns : goal.returns
returns c = search (answer_written, rules)

-- as many bytes as an answer line has
pub shape_of-line : goal.shape_of-line
shape_of-line c = ap length (returns c) ∙ answer_length_lem _ ∙ omega arith
