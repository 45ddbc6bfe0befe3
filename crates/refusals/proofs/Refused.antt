-- The refusals as the code finds them: first those before a call's numbers are looked at, then, of a valid table, those that the call's kind can
-- meet.
use Rattle.std.proofs.Common.{ℕ, ◌<◌, ◌≤◌, ◌≡◌, ◌≢◌, refl, sym, ◌∙◌, Bool, true, false, cond, not, ◌&&◌, List, [], ◌∷◌, length, arith, eqb, ltb, leb, leb-true}
use Rattle.std.proofs.lemmas.Grind.{common_steps}
use lib.ListN.{get_or-eq_default}
use Rattle.rules.specs.declared.Timer.{Timer}
use Rattle.rules.specs.declared.Table.{Table}
use Rattle.rules.specs.declared.Call.{Call}
use Rattle.rules.specs.declared.Refusal.{Refusal}
use Rattle.rules.specs.Statuses.{number_of}
use Rattle.rules.specs.Numbers.{queue_room, WAIT, ENTER, EXIT, SEND, RETRIEVE, ARM, TICK}
use Rattle.rules.specs.Words.{is_zero, every, Reason, when, first}
use Rattle.rules.specs.Regions.{held_by}
use Rattle.rules.specs.Queues.{none_fits}
use Rattle.rules.specs.Tables.{region_of, bound_of, queue_of}
use Rattle.rules.specs.Validity.{valid, counts_in_range}
use Rattle.rules.specs.Refusals.{missing, bad_operator, others_at, wrong_state, leaves, inside, entries_full, closes_circle, stops_holder, reasons, refusal}
use Rattle.rules.proofs.Bools.{given}
use Rattle.rules.proofs.Queues.{queue_length}
use Rattle.rules.proofs.Rules.{Parts}
use Rattle.rules.proofs.ValidQueues.{sound}
use Rattle.rules.proofs.Validity.{parts_of}
use Rattle.rules.proofs.Refusals.{first_append}
use Rattle.tables.specs.declared.front.Front.{Front}
use Rattle.tables.specs.Fronts.{whole}
use Rattle.queues.proofs.Places.{none_is}
use Rattle.refusals.specs.ByKind.{wrong_task, task_reasons, full, lacking, queue_reasons, timer_reasons}
use Rattle.refusals.specs.Assuming.{early_reasons}

-- ---- a reason that the kind of a call can't meet does not apply

-- before ARM, 15 is about tasks
wrong_below : (states : List ℕ) (timers : List Timer) (c : Call) → c.operation < ARM → wrong_state states timers c ≡ wrong_task states c
unfolding wrong_state wrong_task
wrong_below states timers c h = grind (arith, common_steps)

-- from ARM on, about timers
wrong_timer : (states : List ℕ) (timers : List Timer) (c : Call) → ARM ≤ c.operation
    → wrong_state states timers c ≡ (ltb c.operation TICK && others_at timers c.caller c.a)
unfolding wrong_state
wrong_timer states timers c h = grind (arith, common_steps, get_or-eq_default)

wrong_queue : (states : List ℕ) (timers : List Timer) (c : Call) → EXIT < c.operation → c.operation < ARM → wrong_state states timers c ≡ false
unfolding wrong_state
wrong_queue states timers c l h = grind (arith, common_steps, get_or-eq_default)

-- behind EXIT nobody is held off by a region: 16, 24, 25
leaves_past : (c : Call) → EXIT < c.operation → leaves c ≡ false
unfolding leaves
leaves_past c h = grind (arith, common_steps, get_or-eq_default)

inside_past : (opened holders : List ℕ) (c : Call) → EXIT < c.operation → inside opened holders c ≡ false
unfolding inside
inside_past opened holders c h = grind (arith, common_steps, leaves_past)

circle_past : (awaits holders : List ℕ) (c : Call) → EXIT < c.operation → closes_circle awaits holders c ≡ false
unfolding closes_circle
circle_past awaits holders c h = grind (arith, common_steps)

stops_past : (opened holders : List ℕ) (c : Call) → EXIT < c.operation → stops_holder opened holders c ≡ false
unfolding stops_holder
stops_past opened holders c h = grind (arith, common_steps, get_or-eq_default)

-- ---- 17 and 18 by places of the store, of a queue that exists

module _ (t : Table) (v : valid t ≡ true) (c : Call) where
  parts : Parts t
  parts = parts_of t v

  pub room : c.a < t.queues → c.a < queue_room
  unfolding counts_in_range
  room h = omega (arith, leb-true t.queues queue_room (given _ parts.counts).1.1.1.0)

  -- SEND and RETRIEVE that miss nothing name a queue
  pub send_there : missing t.tasks t.regions t.queues c ≡ false → c.operation ≡ SEND → c.a < t.queues
  unfolding missing
  send_there m e = grind (arith, common_steps)

  pub retrieve_there : missing t.tasks t.regions t.queues c ≡ false → c.operation ≡ RETRIEVE → c.a < t.queues
  unfolding missing
  retrieve_there m e = grind (arith, common_steps)

  full_same : missing t.tasks t.regions t.queues c ≡ false
      → full t.bound t.length c ≡ (eqb c.operation SEND && leb (bound_of t c.a) (length (queue_of t c.a)))
  full_same m = grind (arith, common_steps, room, send_there, queue_length, sound t parts)

  lacking_same : missing t.tasks t.regions t.queues c ≡ false
      → lacking t.length t.criterion c ≡ (eqb c.operation RETRIEVE && none_fits c.c (queue_of t c.a))
  unfolding lacking
  lacking_same m = grind (arith, common_steps, room, retrieve_there, none_is, sound t parts)

-- ---- the whole list

-- the rules' reasons from 14 on
late : Table → Call → List Reason
late t c =
    when 14 (missing t.tasks t.regions t.queues c)
    ∷ when 19 (eqb c.operation WAIT && bad_operator c.b)
    ∷ when 15 (wrong_state t.state t.timers c)
    ∷ when 16 (inside t.opened t.holder c)
    ∷ when 17 (eqb c.operation SEND && leb (bound_of t c.a) (length (queue_of t c.a)))
    ∷ when 18 (eqb c.operation RETRIEVE && none_fits c.c (queue_of t c.a))
    ∷ when 22 (eqb c.operation ENTER && entries_full (region_of t c.a) c.caller)
    ∷ when 23 (eqb c.operation EXIT && not (held_by c.caller (region_of t c.a)))
    ∷ when 24 (closes_circle t.awaits t.holder c)
    ∷ when 25 (stops_holder t.opened t.holder c)
    ∷ []

refusal_is : (t : Table) (c : Call) (known : Bool) → known ≡ valid t → (early : ℕ) → early ≡ first (early_reasons known t.elected c)
    → refusal t c ≡ cond (is_zero early) (first (late t c)) early
unfolding refusal reasons late every
refusal_is t c known is early e = first_append (early_reasons (valid t) t.elected c) (late t c) refl ∙ rw (e, is) refl

-- no early reason: the table is valid
pub valid_then : (known : Bool) (elected : ℕ) (c : Call) → first (early_reasons known elected c) ≡ 0 → known ≡ true
valid_then known elected c h = grind (arith, common_steps)

pub refused_early : (t : Table) (c : Call) (known : Bool) → known ≡ valid t → (early : ℕ) → early ≡ first (early_reasons known t.elected c) → early ≢ 0
    → early ≡ refusal t c
refused_early t c known is early e n = grind (arith, common_steps, refusal_is)

-- no reason has the number 0
pub number_past : (r : Refusal) → number_of r ≢ 0
number_past r e = grind (arith, number_of)

-- 14 of a call on a front
abbrev pub missing_in : Front → Call → Bool
missing_in f c = missing f.tasks f.regions f.queues c

module _ (f : Front) (cs : List ℕ) (c : Call) (es : List ℕ) (v : valid (whole f es cs) ≡ true)
    (none : first (early_reasons true f.elected c) ≡ 0) where
  abbrev t : Table
  t = whole f es cs

  late_is : refusal t c ≡ first (late t c)
  late_is = refusal_is t c true (sym v) 0 (sym none)

  pub refused_missing : missing_in f c ≡ true → 14 ≡ refusal t c
  unfolding late
  refused_missing m = grind (arith, common_steps, late_is)

  module _ (m : missing_in f c ≡ false) {r : ℕ} where
    pub refused_timer : RETRIEVE < c.operation → r ≡ first (timer_reasons f.timers c) → r ≡ refusal t c
    unfolding late
    refused_timer h p = grind (arith, common_steps, late_is, wrong_timer, inside_past, circle_past, stops_past)

    pub refused_queue : EXIT < c.operation → c.operation ≤ RETRIEVE → r ≡ first (queue_reasons f cs c) → r ≡ refusal t c
    unfolding late
    refused_queue l h p = grind (arith, common_steps, late_is, wrong_queue, inside_past, circle_past, stops_past, full_same t v c m, lacking_same t v c m)

    pub refused_task : c.operation ≤ EXIT → r ≡ first (task_reasons f c) → r ≡ refusal t c
    unfolding late
    refused_task h p = grind (arith, common_steps, late_is, wrong_below)
