-- The first reason is the rules'; a command is done by its kind, and only SEND and RETRIEVE change the store.
use Rattle.std.proofs.Common.{refl, rules}
use Rattle.rules.specs.Statuses.{number_of}
use Rattle.calls.proofs.Together.{in_parts, step_read, front_read}
use Rattle.refusals.proofs.Refused.{number_past}
use Rattle.calls.proofs.Done.{refused_step}
use Rattle.calls.proofs.call.call_assuming.Goals as goal

pub returns-in-Err : goal.returns-in-Err
returns-in-Err c = λ is. rw c.refused_by.ensures (in_parts (refused_step _ _ (number_of c.in-Err.reason) _ (search (rules, is)) (number_past c.in-Err.reason) refl))

pub returns-in-Start : goal.returns-in-Start
returns-in-Start c = λ is. front_read _ _ _ _ c.in-Ok.command (search rules) (search (rules, is)) (search (rules, c.in-Start.is)) (search (rules, c.in-Start.is)) c.task_call.ensures

pub returns-in-Enter : goal.returns-in-Enter
returns-in-Enter c = λ is. front_read _ _ _ _ c.in-Ok.command (search rules) (search (rules, is)) (search (rules, c.in-Enter.is)) (search (rules, c.in-Enter.is)) c.enter_call.ensures

pub returns-in-Exit : goal.returns-in-Exit
returns-in-Exit c = λ is. front_read _ _ _ _ c.in-Ok.command (search rules) (search (rules, is)) (search (rules, c.in-Exit.is)) (search (rules, c.in-Exit.is)) c.exit_call.ensures

pub returns-in-Send : goal.returns-in-Send
returns-in-Send c = λ is. step_read _ _ c.in-Ok.command (search rules) (search (rules, is)) c.send_call.ensures

pub returns-in-Retrieve : goal.returns-in-Retrieve
returns-in-Retrieve c = λ is. step_read _ _ c.in-Ok.command (search rules) (search (rules, is)) c.retrieve_call.ensures

pub returns-in-Arm : goal.returns-in-Arm
returns-in-Arm c = λ is. front_read _ _ _ _ c.in-Ok.command (search rules) (search (rules, is)) (search (rules, c.in-Arm.is)) (search (rules, c.in-Arm.is)) c.timer_call.ensures

pub returns-in-Tick : goal.returns-in-Tick
returns-in-Tick c = λ is. front_read _ _ _ _ c.in-Ok.command (search rules) (search (rules, is)) (search (rules, c.in-Tick.is)) (search (rules, c.in-Tick.is)) (c.tick_call.ensures _ (search (rules, c.in-Tick.is)))
