-- The thirteen operations: what an accepted call does to the table, before the election, and what it answers.
use Rattle.std.specs.Prelude.{ℕ, suc, Bool, cond, not, ◌&&◌, List, [], ◌∷◌, ◌++◌, map, eqb, get_or}
use Rattle.rules.specs.declared.Timer.{Timer}
use Rattle.rules.specs.declared.Table.{Table}
use Rattle.rules.specs.declared.Call.{Call}
use Rattle.rules.specs.Numbers.{nobody}
use Rattle.rules.specs.Words.{altered, by_operation}
use Rattle.rules.specs.Events.{met}
use Rattle.rules.specs.Tasks.{as_started, as_stopped, signalled, waited, as_cleared}
use Rattle.rules.specs.Regions.{held_by_other, entered, exited, handed}
use Rattle.rules.specs.Queues.{Pair, pair, no_pair, place, without}
use Rattle.rules.specs.Timers.{later, as_armed, disarmed, is_due, rung}
use Rattle.rules.specs.Tables.{task_of, region_of, heir_of, changed, with_timers, with_region, with_awaits, queue_of, with_queue}

-- the table, the status (0, or 1 for a WAIT that waits and an ENTER that suspends) and the pair that RETRIEVE gives
pub record Effect : Type 0 where
  pub table : Table
  pub status : ℕ
  pub given : Pair

-- "Whatever is accepted has status 0, except a WAIT that waits", and an ENTER that suspends; "both are 0 otherwise"
abbrev pub plain : Table → Effect
plain t = record { table = t; status = 0; given = no_pair }

-- "stopped becomes ready, no event arrived"
abbrev pub start : Table → Call → Effect
start t c = plain (changed c.a as_started t)

-- a task stopped: "STOP and END disarm the task's timers"; "A stopped task leaves its line"
abbrev pub stopped_table : ℕ → Table → Table
stopped_table i t = with_awaits i 0 (with_timers t.ticks (map (disarmed i) t.timers) (changed i as_stopped t))

-- "becomes stopped, events and waited list cleared; may be the caller"
abbrev pub stop : Table → Call → Effect
stop t c = plain (stopped_table c.a t)

-- "as STOP of the caller"
abbrev pub end : Table → Call → Effect
end t c = plain (stopped_table c.caller t)

-- "event arrived, whatever it was; a waiting task whose condition is now met becomes ready"
abbrev pub signal : Table → Call → Effect
signal t c = plain (changed c.b (signalled c.a) t)

-- "condition met: nothing changes, status 0; else the caller waits, status 1"
abbrev pub wait : Table → Call → Effect
wait t c =
    record {
      table = changed c.caller (waited c.a c.b) t;
      status = cond (met c.b c.a (task_of t c.caller).arrived) 0 1;
      given = no_pair;
    }

-- "the caller's listed events become not arrived"
abbrev pub clear : Table → Call → Effect
clear t c = plain (changed c.caller (as_cleared c.a) t)

-- ENTER of a region "held by another task suspends the caller (status 1)"
abbrev pub suspend : Table → Call → Effect
suspend t c = record { table = with_awaits c.caller (suc c.a) t; status = 1; given = no_pair }

-- any other ENTER: "caller becomes holder"; "a region counts its entries"
abbrev pub enter : Table → Call → Effect
enter t c =
    cond (held_by_other c.caller (region_of t c.a))
    (suspend t c)
    (plain (with_region c.a (entered c.caller (region_of t c.a)) t))

-- "EXIT at count 0 gives it to its most urgent waiting task .., which holds it with count 1 and becomes ready"
abbrev pub hand_on : ℕ → Table → Table
hand_on r t = with_awaits (heir_of t r) 0 (with_region r (handed (heir_of t r)) t)

-- the matching EXIT of a region that a task waits for
abbrev pub hands_on : ℕ → Table → Bool
hands_on r t = eqb (region_of t r).entries 1 && not (eqb (heir_of t r) nobody)

-- any other EXIT: the region "is free only at the matching EXIT"
abbrev pub exit : Table → Call → Effect
exit t c =
    cond (hands_on c.a t) (plain (hand_on c.a t)) (plain (with_region c.a (exited (region_of t c.a)) t))

-- "element added"
abbrev pub send : Table → Call → Effect
send t c = plain (with_queue c.a (queue_of t c.a ++ (pair c.b c.c ∷ [])) t)

-- "oldest element of that criterion removed; 16 means the largest criterion present"
abbrev pub retrieve : Table → Call → Effect
retrieve t c =
    record {
      table = with_queue c.a (without (place c.c (queue_of t c.a)) (queue_of t c.a)) t;
      status = 0;
      given = get_or (queue_of t c.a) (place c.c (queue_of t c.a)) no_pair;
    }

-- "for the caller; arming again replaces"
abbrev pub arm : Table → Call → Effect
arm t c = plain (with_timers t.ticks (altered c.a (as_armed c.caller c.b (later t.ticks c.c)) t.timers) t)

-- "DISARM of an idle one changes nothing"
abbrev pub disarm : Table → Call → Effect
disarm t c = plain (with_timers t.ticks (altered c.a (disarmed c.caller) t.timers) t)

-- each due timer "signals its task's event"
unfoldable pub ringing : ℕ → List Timer → Table → Table
ringing ticks [] t = t
ringing ticks (r ∷ rs) t = ringing ticks rs (cond (is_due ticks r) (changed r.owner (signalled r.event) t) t)

-- the counter advances; "all timers due at one tick signal before one election"
unfoldable pub ticked : Table → Table
ticked t =
    with_timers (later t.ticks 1) (map (rung (later t.ticks 1)) t.timers)
    (ringing (later t.ticks 1) t.timers t)

abbrev pub tick : Table → Call → Effect
tick t c = plain (ticked t)

-- a number past the thirteen is never accepted
abbrev pub nothing : Table → Call → Effect
nothing t c = plain t

-- the operations by their numbers, 0 to 12
abbrev pub operations : List (Table → Call → Effect)
operations = start ∷ stop ∷ end ∷ signal ∷ wait ∷ clear ∷ enter ∷ exit ∷ send ∷ retrieve ∷ arm ∷ disarm ∷ tick ∷ []

unfoldable pub effect : Table → Call → Effect
effect t c = by_operation nothing c.operation operations t c
