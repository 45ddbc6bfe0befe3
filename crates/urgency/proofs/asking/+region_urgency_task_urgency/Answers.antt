-- A region: the smallest urgency of the tasks passed. A task: the smallest urgency of the regions passed.
use Rattle.std.proofs.Common.{sym, ◌∙◌, rules}
use Rattle.rules.specs.Numbers.{task_room, region_room}
use Rattle.rules.specs.Election.{smallest}
use Rattle.rules.proofs.Election.{smallest_end}
use Rattle.rules.proofs.Smallest.{smallest_taken, smallest_left}
use Rattle.urgency.proofs.Asked.{region_none, region_asks, task_asks}
use Rattle.urgency.proofs.asking.+region_urgency_task_urgency.Goals as goal
use Rattle.urgency.proofs.asking.+region_urgency_task_urgency.Goals.{region_urgency-then-names_it, region_urgency-else-names_it}
use Rattle.urgency.proofs.asking.+region_urgency_task_urgency.Goals.{task_urgency-then-holds_it, task_urgency-else-holds_it}

pub region_urgency-returns-then-left-eq0 : goal.region_urgency-returns-then-left-eq0
region_urgency-returns-then-left-eq0 t c = region_none _ _ _ _ _ _ c.if-left-eq0.true

pub region_urgency-loop-i-init : goal.region_urgency-loop-i-init
unfolding smallest
region_urgency-loop-i-init t c = search rules

pub region_urgency-loop-i-preserved : goal.region_urgency-loop-i-preserved
region_urgency-loop-i-preserved t c = (
  search rules,
  elim c.if-names_it.branch [
    | region_urgency-then-names_it w ↦
        w.least-is
        ∙ w.min-least.ensures
        ∙ smallest_taken _ _ _ c.loop-i.invariant.1 (sym w.if-names_it.true ∙ c.names_it.ensures) (w.from.ensures ∙ w.task_urgency-u.ensures)
    | region_urgency-else-names_it w ↦
        w.least-is ∙ smallest_left _ _ _ c.loop-i.invariant.1 (sym w.if-names_it.false ∙ c.names_it.ensures)
  ],
)

pub region_urgency-returns : goal.region_urgency-returns
region_urgency-returns t c =
    region_asks _ _ _ _ _ _ c.if-left-eq0.false (smallest_end _ task_room _ _ _ c.loop-i.invariant.1 (search rules) (search rules))

pub task_urgency-loop-r-init : goal.task_urgency-loop-r-init
unfolding smallest
task_urgency-loop-r-init t c = search rules

pub task_urgency-loop-r-preserved : goal.task_urgency-loop-r-preserved
task_urgency-loop-r-preserved t c = (
  search rules,
  elim c.if-holds_it.branch [
    | task_urgency-then-holds_it w ↦
        w.least-is
        ∙ w.min-least.ensures
        ∙ smallest_taken _ _ _ c.loop-r.invariant.1 (sym w.if-holds_it.true ∙ c.holds_it.ensures) w.region_urgency.ensures
    | task_urgency-else-holds_it w ↦
        w.least-is ∙ smallest_left _ _ _ c.loop-r.invariant.1 (sym w.if-holds_it.false ∙ c.holds_it.ensures)
  ],
)

pub task_urgency-returns : goal.task_urgency-returns
task_urgency-returns t c =
    task_asks _ _ _ _ _ _ (smallest_end _ region_room _ _ _ c.loop-r.invariant.1 (search rules) (search rules)) (rw c.from.ensures at c.min.ensures)
