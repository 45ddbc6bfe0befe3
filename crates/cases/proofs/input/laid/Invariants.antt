-- The parts laid so far lie within the input; the words that are left can be asked for, and they end.
use Rattle.std.proofs.Common.{length, ◌≤◌}
use Rattle.cases.proofs.input.laid.Given as goal

abbrev pub invariant-loop-piece : goal.invariant-loop-piece
invariant-loop-piece l =
    record {
      can_next : (goal.iterator-loop-piece).can_next l.piece-iterator;
      is_finite : (goal.iterator-loop-piece).is_finite l.piece-iterator;
      inside : l.end ≤ length l.room;
    }
