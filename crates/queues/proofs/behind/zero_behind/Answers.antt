-- Each of the four stretches is all 0, and together they are what lies behind the queue.
use Rattle.std.proofs.Common.{rules, ℕ, ◌+◌, ◌*◌, ◌∙◌}
use Rattle.rules.specs.Numbers.{places}
use Rattle.rules.specs.Queues.{behind}
use Rattle.queues.specs.Zeros.{zero_part}
use Rattle.queues.proofs.Scans.{past_end, four_cover}
use Rattle.queues.proofs.behind.zero_behind.Goals as goal

-- the code's STRETCH
abbrev stretch : ℕ
stretch = 16

pub returns-then-last-first : goal.returns-then-last-first
unfolding behind zero_part
returns-then-last-first c =
    let store = c.args.store.now in
    let start : ℕ = c.args.q * places in
    (rw c.min.ensures at c.part_zero.ensures) ∙ past_end store.element store.criterion (start + c.args.n) (start + places)

pub returns : goal.returns
unfolding behind zero_part
returns c =
    four_cover _ _ stretch _ _ _ _ (search rules) (search rules) c.max-second.ensures c.max-third.ensures
    c.part_zero-a.ensures c.part_zero-b.ensures c.part_zero-c.ensures c.part_zero-d.ensures
