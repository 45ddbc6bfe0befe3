-- A call that is asked for is made; else the table stays.
use Rattle.std.proofs.Common.{refl}
use Rattle.bench_lines.specs.Steps.{malformed, request_done}
use Rattle.bench_lines.proofs.later.line_assuming.Goals as goal

pub returns-in-Some : goal.returns-in-Some
unfolding request_done
returns-in-Some c = λ is. rw c.in-Some.is (c.call_assuming.ensures is)

pub returns-in-None : goal.returns-in-None
unfolding request_done malformed
returns-in-None c = λ is. rw (c.in-None.is, c.malformed_answer.ensures) (refl, (refl, refl))
