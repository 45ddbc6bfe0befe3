-- The ways of the tasks passed are carried.
use Rattle.std.proofs.Common.{◌≡◌, length, rules, ◌∙◌}
use Rattle.std.proofs.lemmas.Iterator.{YieldsList-from_slice, YieldsList-from_zip}
use Rattle.std.proofs.lemmas.Iterator.Consumers.{YieldsList-turn, YieldsList-end}
use Rattle.std.proofs.lemmas.List.{length_push}
use Rattle.rules.specs.Numbers.{task_room}
use Rattle.rules.proofs.Folds.{zip_turn, zip_length}
use Rattle.urgency.proofs.Carried.{carried_none, carried_again}
use Rattle.urgency.proofs.column.carried_by_all.Goals as goal

pub loop-p-init : goal.loop-p-init
loop-p-init c = carried_none _ _ _ _

pub loop-p-preserved : goal.loop-p-preserved
loop-p-preserved c =
    let t = c.args.f.now in
    let turn = YieldsList-turn (YieldsList-from_zip (YieldsList-from_slice t.priority (cc)) (YieldsList-from_slice t.awaits (cc))) c.loop-p.yielded c.loop-p.p-iterator c.loop-p.yielded_by c.next.result c.next.new.self (c.in-Some.p, c.in-Some.entry) c.in-Some.is c.next.ensures.steps in
    let here = zip_turn 0 0 t.priority t.awaits (length c.loop-p.yielded) turn in
    let more = length_push c.loop-p.yielded (c.in-Some.p, c.in-Some.entry) in
    rw more (carried_again _ _ _ _ _ c.loop-p.invariant (rw (here.0, here.1) at c.carried.ensures))

pub returns : goal.returns
returns c =
    let t = c.args.f.now in
    let end = YieldsList-end (YieldsList-from_zip (YieldsList-from_slice t.priority (cc)) (YieldsList-from_slice t.awaits (cc))) c.loop-p.yielded c.loop-p.p-iterator c.loop-p.yielded_by c.next.result c.next.new.self c.in-None.is c.next.ensures.steps in
    let all : length c.loop-p.yielded ≡ task_room = end.1 ∙ zip_length 0 0 task_room t.priority t.awaits (search rules) (search rules) in
    rw all at c.loop-p.invariant
