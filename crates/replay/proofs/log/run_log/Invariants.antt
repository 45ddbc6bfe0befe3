-- After each call the table and the answers are those of the replay, and whether the table is valid stays as it is.
use Rattle.std.proofs.Common.{◌≡◌, ◌≤◌, length}
use Rattle.tables.specs.Fronts.{whole}
use Rattle.replay.proofs.Runs.{Ran}
use Rattle.replay.proofs.log.run_log.Given as goal

abbrev pub invariant-loop-i : goal.invariant-loop-i
invariant-loop-i l =
    record {
      within : l.i ≤ l.count;
      ran : Ran (whole l.initial.f l.initial.store.element l.initial.store.criterion) l.log l.initial.answers l.known l.i l.f l.store.element l.store.criterion l.answers;
      long : length l.answers ≡ length l.initial.answers;
    }
