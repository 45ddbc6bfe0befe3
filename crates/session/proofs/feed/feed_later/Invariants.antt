-- What is done and what is ahead make the whole, from line to line; the store's size stays, and so does whether the table is valid.
use Rattle.std.proofs.Common.{◌-◌, ◌/◌, true, length}
use Rattle.tables.specs.Fronts.{whole}
use Rattle.frames.specs.Answers.{answer_length}
use Rattle.bench_lines.specs.Start.{standing}
use Rattle.session.proofs.PieceLoop.{GoingFrom, Known}
use Rattle.session.proofs.feed.feed_later.Given as goal

abbrev pub invariant-loop : goal.invariant-loop
invariant-loop l =
    record {
      goes : GoingFrom l.input (standing (whole l.initial.f l.initial.store.element l.initial.store.criterion) true) l.initial.at l.initial.written ((length l.initial.out - l.initial.written) / answer_length) l.initial.out
          (standing (whole l.f l.store.element l.store.criterion) true) l.at l.written (l.end - l.counter) l.out;
      known : Known l.valid l.f l.store.element l.store.criterion;
    }
