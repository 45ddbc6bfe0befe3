-- What the code builds for each kind of call, of what its callees give it, is the step of the rules, if the call is accepted.
use Rattle.std.proofs.Common.{◌≡◌, ℕ, suc, ◌+◌, ◌-◌, ◌%◌, ◌<◌, ◌≤◌, Bool, true, false, cond, not, ◌&&◌, ◌||◌, eqb, ltb, List, length, get_or, set, sym, refl, ap, ◌∙◌, ap₂, mod-eq_of_lt, add-one, arith, ltb-false, ltb-true, eqb-true, ne_eqb, leb-false, ◌≢◌, map, Option, Some, None, ◌⊎◌, inl, inr, lt-ltb}
use Rattle.std.specs.Option.{unwrap_or}
use borrow.Author.Tests.{not-false}
use Rattle.std.specs.Int.{from_bool}
use Rattle.rules.specs.declared.Task.{Task}
use Rattle.rules.specs.declared.Region.{Region}
use Rattle.rules.specs.declared.Timer.{Timer}
use Rattle.rules.specs.declared.Table.{Table}
use Rattle.rules.specs.declared.Call.{Call}
use Rattle.rules.specs.declared.Elected.{Elected}
use Rattle.rules.specs.declared.Done.{Done}
use Rattle.rules.specs.Numbers.{task_room, region_room, queue_room, places, store_size, criterion_end, timer_room, nobody, STOP, END, WAIT, ENTER, EXIT, SEND, RETRIEVE, ARM, TICK}
use Rattle.rules.specs.Events.{met}
use Rattle.rules.specs.Regions.{held}
use Rattle.rules.specs.Queues.{Pair, pair, first_place}
use Rattle.rules.specs.Timers.{later, rung}
use Rattle.rules.specs.Election.{elect_by}
use Rattle.rules.specs.Urgency.{closed_holders, states_with, urgencies}
use Rattle.rules.specs.Tables.{task_of, region_of, timer_of, length_of, bound_of, queue_of, heir_of, states_of, urgencies_of, closed_of, with_task, with_region, with_awaits, with_elected, election_of, elect_of, with_store, with_timers}
use Rattle.rules.specs.Answers.{done}
use Rattle.rules.specs.Refusals.{missing, refusal}
use Rattle.rules.specs.Effects.{Effect, plain, ticked, effect}
use Rattle.rules.specs.Step.{accepted, step}
use Rattle.rules.proofs.Bools.{or_right}
use Rattle.rules.proofs.Election.{elect_by_lem, same_undisplaced}
use Rattle.rules.proofs.Queues.{Sound, queue_length, sent_stored}
use Rattle.rules.proofs.Rules.{Parts}
use Rattle.rules.proofs.ValidQueues.{sound, bound_below}
use Rattle.rules.proofs.Validity.{parts_of}
use Rattle.rules.proofs.Refusals.{Accepted, accepted_facts}
use Rattle.queues.specs.Gaps.{closed_in}
use Rattle.queues.specs.Places.{place_in, unless_end}
use Rattle.queues.proofs.Places.{place_is, none_is, given_is, taken_is, place_known}
use Rattle.tasks.specs.Effects.{target, task_after}
use Rattle.regions.specs.Effects.{others_region, region_entered, region_left}
use Rattle.timers.specs.Signals.{Rows, rung_rows, rows_of, with_rows, front_ticked}
use Rattle.timers.specs.Effects.{timer_after, timers_left}
use Rattle.timers.proofs.Signals.{ticked_is, ticked_front}
use Rattle.refusals.proofs.Refused.{room, send_there, retrieve_there}
use Rattle.tables.specs.declared.front.Front.{Front}
use Rattle.tables.specs.Fronts.{whole, storeless, front_of, front_done, answered}
use Rattle.urgency.specs.Named.{unless_nobody}
use Rattle.calls.specs.Steps.{elected_afresh}
use Rattle.calls.proofs.Accepted.{set_own, tasks_fit, regions_fit, target_below, caller_below, enter_there, exit_there, timer_there, still_runs, task_effect_lem, enter_effect, exit_effect, timer_effect}

-- what an election by the closed regions' holder makes of a front is the front with its elected task found afresh
pub afresh_of : (f : Front) (status : ℕ) {next : Elected}
    → next ≡ elect_by f.elected (held (closed_holders f.opened f.holder)) (states_with f.awaits f.state) (urgencies f.priority f.awaits f.opened f.holder)
    → front_done (elected_afresh (storeless f) status)
    ≡ record {
      front = record f { elected = next.task };
      answer = record { status = status; value = 0; key = 0; elected = next.task; displaced = next.displaced };
    }
afresh_of f status e = rw (e ∙ elect_by_lem f.elected (states_with f.awaits f.state) (urgencies f.priority f.awaits f.opened f.holder) (closed_holders f.opened f.holder)) refl

-- a test as a number
pub as_number : (b : Bool) → from_bool b ≡ cond b 1 0
as_number true = refl
as_number false = refl

-- a refused call leaves the table as it came in
pub refused_step : (t : Table) (c : Call) (s who : ℕ) → s ≡ refusal t c → s ≢ 0 → who ≡ cond (eqb s 10 || eqb s 20) nobody t.elected
    → record { table = t; answer = record { status = s; value = 0; key = 0; elected = who; displaced = nobody } } ≡ step t c
unfolding step
refused_step t c s who is n w = rw (← is, ne_eqb s 0 n, w)

accepted_is : (t : Table) (c : Call) → refusal t c ≡ 0 → step t c ≡ accepted t.elected (effect t c)
unfolding step
accepted_is t c h = rw h

-- with status 0 or 1 the elected task reported is the table's own
as_answered : (u : Table) (b : Bool) (displaced : ℕ) → done u (cond b 1 0) 0 0 displaced ≡ answered u (cond b 1 0) 0 0 displaced
as_answered u true displaced = refl
as_answered u false displaced = refl

module _ (t : Table) (c : Call) (z : refusal t c ≡ 0) where
  facts : Accepted t c
  facts = accepted_facts t c z

  parts : Parts t
  parts = parts_of t facts.is_valid

  -- where nothing changes that the election reads, the elected task stays and nobody is displaced
  abbrev stays : Elected
  stays = record { task = t.elected; displaced = nobody }

  stays_is : stays ≡ elect_of t.elected t
  stays_is =
      ap₂ (λ who other. record { task = who; displaced = other }) parts.elected
      (sym (same_undisplaced t.elected (states_of t) (election_of t) (sym parts.elected)))

  -- ---- START, STOP, END, SIGNAL, WAIT, CLEAR

  module _ (low : c.operation < ENTER) {i : ℕ} (is : i ≡ target c) {after : Task} {m : Bool} {status : ℕ}
      (p : after ≡ task_after c (task_of t (i % task_room))) (q : m ≡ met (c.b % 256) (c.a % 65536) (task_of t (i % task_room)).arrived)
      (w : status ≡ cond (eqb c.operation WAIT && not m) 1 0) where
    row : i % task_room ≡ target c
    row = rw is (mod-eq_of_lt (omega (arith, target_below t c facts low, tasks_fit t c facts)))

    -- a WAIT whose condition isn't met
    abbrev suspended : Bool
    suspended = eqb c.operation WAIT && not (met (c.b % 256) (c.a % 65536) (task_of t (target c)).arrived)

    changed : (left : List Timer) (awaited : ℕ) → left ≡ timers_left c.operation (i % task_room) t.timers
        → awaited ≡ cond (eqb c.operation STOP || eqb c.operation END) 0 (get_or t.awaits (i % task_room) 0)
        → elected_afresh (with_awaits (i % task_room) awaited (with_timers t.ticks left (with_task (i % task_room) after t))) status ≡ step t c
    changed left awaited k o =
        rw (k, o, w, q, p)
        (rw row (sym (accepted_is t c z ∙ ap (accepted t.elected) (task_effect_lem t c facts low) ∙ as_answered _ suspended _)))

    pub task_changed : (left : List Timer) (awaited v : ℕ) (next : Elected) → left ≡ timers_left c.operation (i % task_room) t.timers
        → awaited ≡ cond (eqb c.operation STOP || eqb c.operation END) 0 (get_or t.awaits (i % task_room) 0)
        → v ≡ held (closed_of t)
        → next
        ≡ elect_by t.elected v (states_with (set t.awaits (i % task_room) awaited) (set t.state (i % task_room) after.state))
        (urgencies t.priority (set t.awaits (i % task_room) awaited) t.opened t.holder)
        → answered (with_elected next.task (with_awaits (i % task_room) awaited (with_timers t.ticks left (with_task (i % task_room) after t)))) status 0 0 next.displaced
        ≡ step t c
    task_changed left awaited v next k o r s =
        let elects : next ≡ elect_of t.elected (with_awaits (i % task_room) awaited (with_task (i % task_room) after t)) = s ∙ rw r (elect_by_lem _ _ _ _) in
        rw elects (changed left awaited k o)

    -- the same of the front: u is it with the task and the timers written, and with no line for the task where it is stopped
    pub task_front : {left : List Timer} (u : Front) → left ≡ timers_left c.operation (i % task_room) u.timers
        → ((eqb c.operation STOP || eqb c.operation END) ≡ true)
        × (u ≡ front_of (with_awaits (i % task_room) 0 (with_task (i % task_room) after t)))
        ⊎ ((eqb c.operation STOP || eqb c.operation END) ≡ false) × (u ≡ front_of (with_task (i % task_room) after t))
        → front_done (elected_afresh (storeless (record u { timers = left })) status) ≡ front_done (step t c)
    task_front u k (inl (o, e)) =
        let disarmed = k ∙ ap (λ v. timers_left c.operation (i % task_room) v.timers) e in
        rw e (ap front_done (changed _ 0 disarmed (rw o refl)))
    task_front u k (inr (o, e)) =
        let disarmed = k ∙ ap (λ v. timers_left c.operation (i % task_room) v.timers) e in
        rw e (rw (set_own t.awaits (i % task_room)) at (ap front_done (changed _ (get_or t.awaits (i % task_room) 0) disarmed (rw o refl))))

    -- where the task keeps its state, nobody else is elected, no timer is disarmed and no line left
    pub task_kept : after.state ≡ (task_of t (i % task_room)).state → answered (with_task (i % task_room) after t) status 0 0 nobody ≡ step t c
    task_kept same =
        let states : set t.state (i % task_room) after.state ≡ t.state = ap (set t.state (i % task_room)) same ∙ set_own t.state (i % task_room) in
        let waits : set t.awaits (i % task_room) (get_or t.awaits (i % task_room) 0) ≡ t.awaits = set_own t.awaits (i % task_room) in
        let runs = still_runs t c facts (i % task_room) row after p same in
        let elects : stays ≡ elect_of t.elected (with_task (i % task_room) after t) = rw states stays_is in
        ap (λ next. answered (with_elected next.task (with_task (i % task_room) after t)) status 0 0 next.displaced) elects
        ∙ (rw waits at (changed t.timers (get_or t.awaits (i % task_room) 0) (rw runs refl) (rw runs refl)))

  -- ---- ENTER and EXIT

  -- the region and the caller, and who gets the region at an EXIT, as the code reads them
  abbrev there : ℕ
  there = c.a % region_room

  abbrev who : ℕ
  who = c.caller % task_room

  abbrev heir_here : ℕ
  heir_here = cond (eqb (region_of t there).entries 1) (heir_of t there) nobody

  module _ (e : c.operation ≡ ENTER) {after : Region} {waits : Bool} {status : ℕ} where
    entered : {awaited : ℕ} → waits ≡ others_region ((c.caller + 1) % 256) (region_of t there) → after ≡ region_entered ((c.caller + 1) % 256) (region_of t there)
        → awaited ≡ cond waits (there + 1) (get_or t.awaits who 0) → status ≡ cond waits 1 0
        → elected_afresh (with_awaits who awaited (with_region there after t)) status ≡ step t c
    entered {awaited = awaited} o p w s =
        let row : there ≡ c.a = mod-eq_of_lt (omega (arith, enter_there t c facts e, regions_fit t c facts)) in
        let below = caller_below t c facts (omega (arith, e)) (omega (arith, e)) in
        let who_is : who ≡ c.caller = mod-eq_of_lt (omega (arith, below, tasks_fit t c facts)) in
        let mine-is : (c.caller + 1) % 256 ≡ suc c.caller = mod-eq_of_lt (omega (arith, below, tasks_fit t c facts)) ∙ add-one c.caller in
        rw (w, s, o, p, mine-is, row, who_is, add-one c.a)
        (sym
        (accepted_is t c z
        ∙ ap (accepted t.elected) (enter_effect t c facts e)
        ∙ as_answered _ (others_region (suc c.caller) (region_of t c.a)) _))

    -- the same of the front: u is it with the region written, and with its caller in line where it waits
    pub enter_front : (u : Front) → waits ≡ others_region ((c.caller + 1) % 256) (region_of t there) → after ≡ region_entered ((c.caller + 1) % 256) (region_of t there)
        → (waits ≡ true) × (u ≡ front_of (with_awaits who (there + 1) (with_region there after t)))
        ⊎ (waits ≡ false) × (u ≡ front_of (with_region there after t))
        → status ≡ from_bool waits
        → front_done (elected_afresh (storeless u) status) ≡ front_done (step t c)
    enter_front u o p (inl (x, d)) s = rw d (ap front_done (entered o p (rw x refl) (s ∙ as_number waits)))
    enter_front u o p (inr (x, d)) s =
        rw d (rw (set_own t.awaits who) at (ap front_done (entered {awaited = get_or t.awaits who 0} o p (rw x refl) (s ∙ as_number waits))))

  module _ (e : c.operation ≡ ENTER) {mine : ℕ} (m : mine ≡ (c.caller + 1) % 256) {after : Region} {waits : Bool} {status awaited v : ℕ}
      {next : Elected} where
    pub enter_step : waits ≡ others_region mine (region_of t there) → after ≡ region_entered mine (region_of t there)
        → awaited ≡ cond waits (there + 1) (get_or t.awaits who 0) → status ≡ cond waits 1 0
        → v ≡ held (closed_holders t.opened (set t.holder there after.holder))
        → next
        ≡ elect_by t.elected v (states_with (set t.awaits who awaited) t.state)
        (urgencies t.priority (set t.awaits who awaited) t.opened (set t.holder there after.holder))
        → answered (with_elected next.task (with_awaits who awaited (with_region there after t))) status 0 0 next.displaced ≡ step t c
    enter_step o p w s q r =
        let elects : next ≡ elect_of t.elected (with_awaits who awaited (with_region there after t)) = r ∙ rw q (elect_by_lem _ _ _ _) in
        rw elects (entered e (rw m at o) (rw m at p) w s)

  module _ (e : c.operation ≡ EXIT) {after : Region} where
    left : {awaited : ℕ} → after ≡ region_left heir_here (region_of t there)
        → awaited ≡ cond (eqb heir_here nobody) (get_or t.awaits (heir_here % task_room) 0) 0
        → elected_afresh (with_awaits (heir_here % task_room) awaited (with_region there after t)) 0 ≡ step t c
    left p w =
        let row : there ≡ c.a = mod-eq_of_lt (omega (arith, exit_there t c facts e, regions_fit t c facts)) in
        rw (w, p, row) (sym (accepted_is t c z ∙ ap (accepted t.elected) (exit_effect t c facts e)))

    pub exit_step : {heir awaited v : ℕ} {next : Elected} → heir ≡ heir_here → after ≡ region_left heir (region_of t there)
        → awaited ≡ cond (eqb heir nobody) (get_or t.awaits (heir % task_room) 0) 0
        → v ≡ held (closed_holders t.opened (set t.holder there after.holder))
        → next
        ≡ elect_by t.elected v (states_with (set t.awaits (heir % task_room) awaited) t.state)
        (urgencies t.priority (set t.awaits (heir % task_room) awaited) t.opened (set t.holder there after.holder))
        → answered (with_elected next.task (with_awaits (heir % task_room) awaited (with_region there after t))) 0 0 0 next.displaced ≡ step t c
    exit_step {heir} {awaited} {next = next} x p w q r =
        let elects : next ≡ elect_of t.elected (with_awaits (heir % task_room) awaited (with_region there after t)) = r ∙ rw q (elect_by_lem _ _ _ _) in
        rw (elects, x) (left (rw x at p) (rw x at w))

    -- the same of the front: u is it with the region written, and with its heir no longer in line
    pub exit_front : {heir : Option ℕ} (u : Front) → heir ≡ unless_nobody heir_here → after ≡ region_left (unwrap_or heir nobody) (region_of t there)
        → ((i : ℕ) × ((heir ≡ Some i) × (u ≡ front_of (with_awaits (i % task_room) 0 (with_region there after t)))))
        ⊎ (heir ≡ None) × (u ≡ front_of (with_region there after t))
        → front_done (elected_afresh (storeless u) 0) ≡ front_done (step t c)
    exit_front {heir = heir} u x p d = go (eqb heir_here nobody) refl d
      where
        go : (b : Bool) → eqb heir_here nobody ≡ b
            → ((i : ℕ) × ((heir ≡ Some i) × (u ≡ front_of (with_awaits (i % task_room) 0 (with_region there after t)))))
            ⊎ (heir ≡ None) × (u ≡ front_of (with_region there after t))
            → front_done (elected_afresh (storeless u) 0) ≡ front_done (step t c)
        go true b (inl (i, (o, k))) = absurd (let no : heir ≡ None = rw b at x in cc)
        go true b (inr (o, k)) =
            let p' : after ≡ region_left heir_here (region_of t there) = rw (eqb-true heir_here nobody b) (rw o at p) in
            rw k (rw (set_own t.awaits (heir_here % task_room)) at (ap front_done (left {awaited = get_or t.awaits (heir_here % task_room) 0} p' (rw b refl))))
        go false b (inl (i, (o, k))) =
            let it : heir ≡ Some heir_here = rw b at x in
            let same : i ≡ heir_here = cc in
            let p' : after ≡ region_left heir_here (region_of t there) = rw it at p in
            rw (k, same) (ap front_done (left {awaited = 0} p' (rw b refl)))
        go false b (inr (o, k)) = absurd (let it : heir ≡ Some heir_here = rw b at x in cc)

  -- ---- ARM, DISARM and TICK

  pub timer_step : ARM ≤ c.operation → c.operation < TICK → {after : Timer} → after ≡ timer_after c t.ticks (timer_of t (c.a % timer_room))
      → answered (with_timers t.ticks (set t.timers (c.a % timer_room) after) t) 0 0 0 nobody ≡ step t c
  timer_step l h {after} p =
      let row : c.a % timer_room ≡ c.a = mod-eq_of_lt (timer_there t c facts l h) in
      let timers = set t.timers c.a (timer_after c t.ticks (timer_of t c.a)) in
      let elects = ap (λ next. answered (with_elected next.task (with_timers t.ticks timers t)) 0 0 0 next.displaced) (sym stays_is) in
      rw (p, row) (sym (accepted_is t c z ∙ ap (accepted t.elected) (timer_effect t c facts l h) ∙ elects))

  pub is_tick_lem : TICK ≤ c.operation → c.operation ≡ TICK
  is_tick_lem l = let most = ltb-false TICK c.operation facts.known in omega arith

  pub tick_step : c.operation ≡ TICK → {now v : ℕ} {next : Elected} {rows : Rows} {left : List Timer}
      → now ≡ later t.ticks 1 → rows ≡ rung_rows now t.timers (rows_of t) → left ≡ map (rung now) t.timers
      → v ≡ held (closed_of t) → next ≡ elect_by t.elected v (states_with t.awaits rows.state) (urgencies_of t)
      → answered (with_elected next.task (with_timers now left (with_rows rows t))) 0 0 0 next.displaced ≡ step t c
  unfolding effect
  tick_step e {next = next} {rows} n p q r s =
      let elects : next ≡ elect_of t.elected (with_rows rows t) = s ∙ rw r (elect_by_lem _ _ _ _) in
      let done_is : effect t c ≡ plain (ticked t) = rw e refl in
      rw elects
      (ap (λ u. accepted t.elected (plain u)) (ticked_is t _ _ _ facts.is_valid n q p) ∙ sym (accepted_is t c z ∙ ap (accepted t.elected) done_is))

  -- ---- SEND and RETRIEVE: nobody is elected again, since neither tasks nor holders change

  -- the place behind the last element of queue q
  abbrev end_of : ℕ → ℕ
  end_of q = first_place q + length_of t q

  -- what the code answers where only the queues' arrays change
  abbrev stored : List ℕ → List ℕ → List ℕ → ℕ → ℕ → Elected → Done
  stored lengths es cs value key next = answered (with_elected next.task (with_store lengths es cs t)) 0 value key next.displaced

  module _ (e : c.operation ≡ SEND) where
    here : c.a < t.queues
    here = send_there t facts.is_valid c facts.nothing_missing e

    within_room : c.a < queue_room
    within_room = room t facts.is_valid c here

    queue : Sound t c.a
    queue = sound t parts c.a within_room

    free : length_of t c.a < places
    free =
        let below = leb-false (bound_of t c.a) (length (queue_of t c.a)) (rw e at facts.not_full) in
        omega (arith, queue_length t c.a queue, bound_below t parts c.a here within_room)

    criterion_fits : c.c % 256 ≡ c.c
    unfolding missing
    criterion_fits =
        mod-eq_of_lt
        (let h = ltb-true c.c criterion_end (not-false _ (or_right (not (ltb c.a t.queues)) _ (rw e at facts.nothing_missing))) in omega arith)

    sent : effect t c
        ≡ plain (with_store (set t.length c.a (length_of t c.a + 1)) (set t.element (end_of c.a) c.b) (set t.criterion (end_of c.a) c.c) t)
    unfolding effect
    sent = rw e (ap plain (sent_stored t c.a queue c.b c.c free))

    pub send_step : {n : ℕ} → n ≡ (length_of t (c.a % queue_room) + 1) % 256
        → answered
        (with_store (set t.length (c.a % queue_room) n) (set t.element (end_of (c.a % queue_room) % store_size) c.b)
        (set t.criterion (end_of (c.a % queue_room) % store_size) (c.c % 256)) t)
        0 0 0 nobody
        ≡ step t c
    send_step longer =
        let row : c.a % queue_room ≡ c.a = mod-eq_of_lt within_room in
        let place : end_of c.a % store_size ≡ end_of c.a = mod-eq_of_lt (omega (arith, within_room, free)) in
        let one_more : (length_of t c.a + 1) % 256 ≡ length_of t c.a + 1 = mod-eq_of_lt (omega (arith, free)) in
        rw (longer, row) (rw (place, one_more, criterion_fits) (sym (accepted_is t c z ∙ ap (accepted t.elected) sent ∙ ap (stored _ _ _ 0 0) (sym stays_is))))

  module _ (e : c.operation ≡ RETRIEVE) where
    within_store : c.a < queue_room
    within_store = room t facts.is_valid c (retrieve_there t facts.is_valid c facts.nothing_missing e)

    from_queue : Sound t c.a
    from_queue = sound t parts c.a within_store

    -- RETRIEVE's effect from the table and the pair
    effect_of : Table → Pair → Effect
    effect_of u p = record { table = u; status = 0; given = p }

    abbrev place_found : ℕ
    place_found = place_in (first_place c.a) (end_of c.a) c.c t.criterion

    found : place_found < end_of c.a
    found =
        let none = sym (none_is t c.a from_queue within_store c.c) ∙ rw e at facts.fits in
        leb-false (end_of c.a) place_found none

    -- a queue that gives an element has one
    some : 1 ≤ length_of t c.a
    some = omega (arith, found, place_is t c.a from_queue within_store c.c)

    taken : effect t c
        ≡ effect_of
        (with_store (set t.length c.a (length_of t c.a - 1)) (closed_in place_found (end_of c.a) t.element)
        (closed_in place_found (end_of c.a) t.criterion) t)
        (pair (get_or t.element place_found 0) (get_or t.criterion place_found 0))
    unfolding effect effect_of
    taken =
        rw e
        (ap₂ effect_of (taken_is t c.a from_queue within_store c.c place_found refl found) (given_is t c.a from_queue within_store c.c place_found refl found))

    -- so the code finds a place
    pub retrieve_finds : None ≡ unless_end (end_of (c.a % queue_room)) (place_in (first_place (c.a % queue_room)) (end_of (c.a % queue_room)) c.c t.criterion)
        → ⊥
    retrieve_finds none =
        let row : c.a % queue_room ≡ c.a = mod-eq_of_lt within_store in
        let lost : None ≡ Some place_found = rw (row, lt-ltb place_found (end_of c.a) found) at none in
        cc

    pub retrieve_step : {p n : ℕ} {es cs : List ℕ} → p ≡ place_in (first_place (c.a % queue_room)) (end_of (c.a % queue_room)) c.c t.criterion
        → n ≡ (length_of t (c.a % queue_room) + 255) % 256
        → es ≡ closed_in (p % store_size) (end_of (c.a % queue_room)) t.element
        → cs ≡ closed_in (p % store_size) (end_of (c.a % queue_room)) t.criterion
        → answered (with_store (set t.length (c.a % queue_room) n) es cs t) 0 (get_or t.element (p % store_size) 0) (get_or t.criterion (p % store_size) 0) nobody
        ≡ step t c
    unfolding effect_of
    retrieve_step at shorter elements criteria =
        let row : c.a % queue_room ≡ c.a = mod-eq_of_lt within_store in
        let place : place_found % store_size ≡ place_found = mod-eq_of_lt (omega (arith, found, within_store, from_queue.short)) in
        let one_less : (length_of t c.a + 255) % 256 ≡ length_of t c.a - 1 = omega (arith, some, from_queue.short) in
        rw (elements, criteria, shorter, at, row)
        (rw (place, one_less) (sym (accepted_is t c z ∙ ap (accepted t.elected) taken ∙ ap (stored _ _ _ _ _) (sym stays_is))))

    -- the same of a place that was found
    pub retrieve_found : {p : ℕ} {es cs : List ℕ}
        → Some p ≡ unless_end (end_of (c.a % queue_room)) (place_in (first_place (c.a % queue_room)) (end_of (c.a % queue_room)) c.c t.criterion)
        → es ≡ closed_in p (end_of (c.a % queue_room)) t.element → cs ≡ closed_in p (end_of (c.a % queue_room)) t.criterion
        → answered (with_store (set t.length (c.a % queue_room) ((length_of t (c.a % queue_room) + 255) % 256)) es cs t) 0 (get_or t.element p 0) (get_or t.criterion p 0) nobody
        ≡ step t c
    unfolding effect_of
    retrieve_found {p} some_place elements criteria =
        let row : c.a % queue_room ≡ c.a = mod-eq_of_lt within_store in
        let place : p ≡ place_found = rw row at (place_known _ _ _ _ some_place).0 in
        let one_less : (length_of t c.a + 255) % 256 ≡ length_of t c.a - 1 = omega (arith, some, from_queue.short) in
        rw (elements, criteria, place, row)
        (rw one_less (sym (accepted_is t c z ∙ ap (accepted t.elected) taken ∙ ap (stored _ _ _ _ _) (sym stays_is))))

-- ---- TICK, of the front

pub tick_front : (f : Front) (es cs : List ℕ) (c : Call) → refusal (whole f es cs) c ≡ 0 → c.operation ≡ TICK
    → front_done (elected_afresh (storeless (front_ticked f)) 0) ≡ front_done (step (whole f es cs) c)
unfolding effect
tick_front f es cs c z e =
    let done_is : effect (whole f es cs) c ≡ plain (ticked (whole f es cs)) = rw e refl in
    let same = ticked_front f es cs (accepted_facts (whole f es cs) c z).is_valid in
    ap (λ u. front_done (accepted f.elected (plain u))) same ∙ ap front_done (sym (accepted_is (whole f es cs) c z ∙ ap (accepted f.elected) done_is))
