-- No entry, an entry past the count, a task's, which is ready if it is stored so and waits for no region, or one past all tasks.
use Rattle.std.proofs.Common.{◌-◌, sym, rules}
use Rattle.rules.specs.Urgency.{states_with}
use Rattle.rules.proofs.Counts.{ends}
use Rattle.rules.proofs.States.{ready_is}
use Rattle.rules.proofs.Urgency.{length_states}
use Rattle.regions.proofs.Holders.{no_holder, holder_past, holder_is, unready}
use Rattle.regions.proofs.check.holder_right.Goals as goal

pub returns-then-v-eq0 : goal.returns-then-v-eq0
returns-then-v-eq0 c = no_holder _ _ _ c.if-v-eq0.true

pub returns-then-f-v : goal.returns-then-f-v
returns-then-f-v c = holder_past _ _ _ c.if-v-eq0.false c.if-f-v.true

pub returns-then-i-lt-TASKS : goal.returns-then-i-lt-TASKS
returns-then-i-lt-TASKS c =
    holder_is _ _ _ c.if-v-eq0.false c.if-f-v.false (sym (ready_is _ _ (search rules) _))

pub returns-else-i-lt-TASKS : goal.returns-else-i-lt-TASKS
returns-else-i-lt-TASKS c =
    holder_is _ _ _ c.if-v-eq0.false c.if-f-v.false (let a = c.args in unready (states_with a.f.now.awaits a.f.now.state) (a.v - 1) (rw length_states (search ends)))
