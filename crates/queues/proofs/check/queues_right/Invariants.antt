-- After q turns the flag says that the first q queues are right, and eight are all.
use Rattle.std.proofs.Common.{◌≤◌, ◌≡◌, get_or}
use Rattle.rules.specs.Numbers.{queue_room}
use Rattle.rules.specs.Words.{below}
use Rattle.rules.specs.Checks.{queue_right}
use Rattle.queues.proofs.check.queues_right.Given as goal

abbrev pub invariant-loop-q : goal.invariant-loop-q
invariant-loop-q l =
    (l.q ≤ queue_room) × (l.right ≡ below l.q (λ k. queue_right l.f.queues k (get_or l.f.bound k 0) (get_or l.f.length k 0) l.store.element l.store.criterion))
