-- One task is written; where its state changes, its place in a line, the election and the timers are those of the step.
use Rattle.std.proofs.Common.{◌≡◌, eqb, ap, ◌∙◌, sym, inl, inr, rules}
use Rattle.tables.specs.Fronts.{whole, front_done}
use Rattle.calls.proofs.Done.{as_number, task_kept, task_front}
use Rattle.rules.specs.Numbers.{STOP, END, WAIT}
use Rattle.rules.specs.Commands.{its_call, operation_number}
use Rattle.calls.proofs.task.task_call.Goals as goal
use Rattle.calls.proofs.task.task_call.Goals.{then-stops, else-stops}

pub returns-then-after-r : goal.returns-then-after-r
returns-then-after-r c =
    λ es cs z.
    let waits : c.eq.result ≡ eqb (operation_number c.args.k.operation) WAIT = search rules in
    rw c.plain.ensures (ap front_done (task_kept (whole c.args.t es cs) (its_call c.args.k) z c.requires (rw c.from-call.ensures at c.target_of.ensures) (rw c.from-call.ensures at c.task_after-after.ensures)
    c.met_by-met.ensures ((rw waits at c.from-status.ensures) ∙ as_number _) c.if-after-r.true))

pub returns : goal.returns
returns c =
    λ es cs z.
    let waits : c.eq.result ≡ eqb (operation_number c.args.k.operation) WAIT = search rules in
    let stop : c.eq-2.result ≡ eqb (operation_number c.args.k.operation) STOP = search rules in
    let end : c.eq-3.result ≡ eqb (operation_number c.args.k.operation) END = search rules in
    sym c.elect_afresh-answer.ensures
    ∙ task_front (whole c.args.t es cs) (its_call c.args.k) z c.requires (rw c.from-call.ensures at c.target_of.ensures) (rw c.from-call.ensures at c.task_after-after.ensures)
    c.met_by-met.ensures ((rw waits at c.from-status.ensures) ∙ as_number _) c.if-stops.t (rw c.from-call.ensures at c.timers_left-t.ensures)
    (elim c.if-stops.branch [ then-stops w ↦ inl (rw (stop, end) at w.if-stops.true, w.t-is) | else-stops w ↦ inr (rw (stop, end) at w.if-stops.false, w.t-is) ])
