-- Each piece that came is counted.
use Rattle.std.proofs.Common.{length, ◌≡◌}
use Rattle.cases.proofs.feed.run.Given as goal

abbrev pub invariant-loop-part : goal.invariant-loop-part
invariant-loop-part l =
    record {
      can_next : (goal.iterator-loop-part).can_next l.part-iterator;
      is_finite : (goal.iterator-loop-part).is_finite l.part-iterator;
      counted : l.pieces ≡ length l.yielded;
    }
