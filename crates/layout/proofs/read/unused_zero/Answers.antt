-- Each timer's byte is tested.
use Rattle.std.proofs.Common.{ℕ, ◌+◌, ◌*◌, Bool, get_or, rules, tests}
use Rattle.rules.specs.Numbers.{timer_room}
use Rattle.rules.specs.Words.{is_zero}
use Rattle.packing.specs.Timers.{timer_width, unused_place}
use Rattle.tables.proofs.Every.{below_from_fold}
use Rattle.layout.specs.Layout.{timers_place, unused_zero}
use Rattle.layout.proofs.read.unused_zero.Goals as goal

pub returns : goal.returns
unfolding unused_zero
returns c =
    let p : ℕ → Bool = λ i. is_zero (get_or c.args.block.now (timers_place + timer_width * i + unused_place) 0) in
    below_from_fold p timer_room c.fold.ensures.ran (search rules) (λ a x b q k. search (rules, tests))
