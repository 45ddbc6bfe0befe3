-- From round to round: nothing is read at the start, a round reads more, and the last one answers what is left.
use Rattle.std.proofs.Common.{rules, arith}
use Rattle.bench.proofs.Rounds.{kept_few, reached_start, reached_again, run_input}
use Rattle.bench.proofs.run.Goals as goal

pub loop-init : goal.loop-init
loop-init c = record { room = search rules; reached = rw c.at_start-s.ensures (reached_start _) }

pub round_of-r-requires : goal.round_of-r-requires
round_of-r-requires c = let few = kept_few _ _ _ _ c.loop.invariant.reached in search rules

pub returns-then-r : goal.returns-then-r
returns-then-r c = run_input _ _ _ _ c.loop.invariant.reached _ _ _ c.round_of-r.ensures (search rules)

pub loop-preserved : goal.loop-preserved
loop-preserved c =
    record {
      room = search rules;
      reached = reached_again _ _ _ _ c.loop.invariant.reached _ _ _ c.round_of-r.ensures (search rules) _ (omega (arith, c.loop-test.true));
    }
