-- With closed regions only the rules are the former ones: the refusals, the effects, the election behind them, and any number of calls.
use Prim.Native.Nat.{ℕ, zero, suc, ◌-◌, ◌<◌, ◌≤◌}
use mathlib.Core.Path.{◌≡◌, refl, sym, ap, ◌∙◌}
use mathlib.Core.Logic.{◌⊎◌, inl, inr, ⊎_elim}
use mathlib.Core.Bool.{Bool, true, false, cond, not, ◌&&◌, ◌||◌, and-false, or-false}
use mathlib.Core.List.{List, [], ◌∷◌}
use native.Mathlib.Omega.{arith}
use lib.Dec.{eqb, ltb, leb}
use lib.ListN.{get_or, set, length, take, replicate, length-take}
use lib.Seq.{set-get_or}
use borrow.Author.Tests.{eqb-true, eq-eqb, ne_eqb, ltb-false}
use Rattle.rules.specs.declared.Table.{Table}
use Rattle.rules.specs.declared.Call.{Call}
use Rattle.rules.specs.Numbers.{region_room, most_entries, WAIT, ENTER, EXIT, SEND, RETRIEVE, TICK}
use Rattle.rules.specs.Words.{is_zero, every, padded, by_operation, Reason, when, first}
use Rattle.rules.specs.Regions.{held, occupied, held_by, held_by_other}
use Rattle.rules.specs.Queues.{none_fits}
use Rattle.rules.specs.Timers.{later}
use Rattle.rules.specs.Election.{displaced_by}
use Rattle.rules.specs.Tables.{region_of, bound_of, queue_of, with_elected, states_of, closed_of, settled}
use Rattle.rules.specs.Validity.{valid}
use Rattle.rules.specs.Answers.{done, refused}
use Rattle.rules.specs.Fresh.{configuration_in_range, fresh_table}
use Rattle.rules.specs.Refusals.{outside_barred, not_elected, tick_by_task, missing, bad_operator, wrong_state, leaves, suspends, inside, entries_full, closes_circle, stops_holder, reasons, refusal}
use Rattle.rules.specs.Effects.{Effect, plain, hands_on, ticked, nothing, operations, effect}
use Rattle.rules.specs.Step.{accepted, step}
use Rattle.rules.proofs.Bools.{◌&◌, given, or_cases, not_intro}
use Rattle.rules.proofs.Lists.{every_head, every_tail}
use Rattle.rules.proofs.Heirs.{heir_nobody}
use Rattle.rules.proofs.Rules.{Parts, counts_fit}
use Rattle.rules.proofs.ValidTasks.{length_states_of}
use Rattle.rules.proofs.ValidRegions.{same_holder, entries_fit_lem}
use Rattle.rules.proofs.Entries.{regions_long}
use Rattle.rules.proofs.Validity.{parts_of}
use Rattle.rules.proofs.Refusals.{first_none, first_append, Accepted, accepted_facts}
use Rattle.rules.proofs.Effects.{upto, frame_kept, ringing_same}
use Rattle.theorems.specs.Kept.{after_all}
use Rattle.theorems.specs.Former.{former_election, former_valid, former_reasons, former_refusal, former_stopped, former_operations, former_effect, former_accepted, former_step, ClosedOnly, answers_to, ClosedAsBefore}
use Rattle.theorems.proofs.Lines.{with_line}
use Rattle.theorems.proofs.Regions.{holder_elected_lem}
use Rattle.theorems.proofs.Entering.{small}
use Rattle.theorems.proofs.Kept.{Caller, caller_of, there, numbered, effect_keeps}
use Rattle.theorems.proofs.Former.{none_waits, holds_none, closed_all, states_all, valid_elects, validity_same}

-- ---- refusals

-- 10 to 15, and what comes behind
abbrev before : Bool → Table → Call → List Reason
before is_valid t c =
    when 10 (not is_valid)
    ∷ when 11 (ltb TICK c.operation)
    ∷ when 13 (outside_barred c)
    ∷ when 12 (not_elected t.elected c.caller)
    ∷ when 13 (tick_by_task c)
    ∷ when 14 (missing t.tasks t.regions t.queues c)
    ∷ when 19 (eqb c.operation WAIT && bad_operator c.b)
    ∷ when 15 (wrong_state t.state t.timers c)
    ∷ []

abbrev behind : Bool → Bool → List Reason → Table → Call → List Reason
behind leaving full more t c =
    when 16 leaving
    ∷ when 17 (eqb c.operation SEND && leb (bound_of t c.a) (length (queue_of t c.a)))
    ∷ when 18 (eqb c.operation RETRIEVE && none_fits c.c (queue_of t c.a))
    ∷ when 22 (eqb c.operation ENTER && full)
    ∷ when 23 (eqb c.operation EXIT && not (held_by c.caller (region_of t c.a)))
    ∷ more

module _ (t : Table) (q : ClosedOnly t) (v : valid t ≡ true) where
  p : Parts t
  p = parts_of t v

  closed : closed_of t ≡ t.holder
  closed = closed_all t q (regions_long t p.shape).0

  -- a region is free, or the elected task's
  own_or_free : (who a : ℕ) → Caller t who → a < region_room → (get_or t.holder a 0 ≡ 0) ⊎ (get_or t.holder a 0 ≡ suc who)
  own_or_free who a w k =
      let h = get_or t.holder a 0 in
      let same : (is_zero h || eqb h (held t.holder)) ≡ true = rw closed at (same_holder t p a k) in
      ⊎_elim (λ z. inl (eqb-true h 0 z)) (λ e. go h (eqb-true h _ e)) (or_cases (is_zero h) _ same)
    where
      go : (h : ℕ) → h ≡ held t.holder → (h ≡ 0) ⊎ (h ≡ suc who)
      go zero e = inl refl
      go (suc m) e =
          let some : is_zero (held (closed_of t)) ≡ false = rw (closed, ← e) (ne_eqb (suc m) 0 (λ z. omega arith)) in
          let is = w.is ∙ holder_elected_lem t p (not_intro _ some) ∙ ap (λ hs. held hs - 1) closed in
          inr (omega arith)

  module _ (c : Call) (barred : outside_barred c ≡ false) (elected : not_elected t.elected c.caller ≡ false)
      (exists : missing t.tasks t.regions t.queues c ≡ false) where
    not_others : c.operation ≡ ENTER
        → (held_by_other c.caller (region_of t c.a) ≡ false) × (entries_full (region_of t c.a) c.caller ≡ eqb (get_or t.entries c.a 0) most_entries)
    unfolding missing
    not_others op =
        let w = caller_of t c.caller (rw op at barred) elected in
        let l = there t.regions c.a (rw op at exists) in
        let k : c.a < region_room = omega (arith, (counts_fit _ _ _ p.counts).1) in
        go k (own_or_free c.caller c.a w k)
      where
        go : c.a < region_room → (get_or t.holder c.a 0 ≡ 0) ⊎ (get_or t.holder c.a 0 ≡ suc c.caller)
            → (held_by_other c.caller (region_of t c.a) ≡ false) × (entries_full (region_of t c.a) c.caller ≡ eqb (get_or t.entries c.a 0) most_entries)
        go k (inl z) =
            let none : get_or t.entries c.a 0 ≡ 0 = eqb-true _ 0 (rw z at (entries_fit_lem t p c.a k)) in
            (rw z refl, rw (z, none, ne_eqb 0 (suc c.caller) (λ e. omega arith)) refl)
        go k (inr e) =
            let mine = eq-eqb (suc c.caller) (suc c.caller) refl in
            (rw (e, mine, ne_eqb (suc c.caller) 0 (λ z. omega arith)) refl, rw (e, mine) refl)

    no_suspend : suspends t.holder c ≡ false
    no_suspend = go (eqb c.operation ENTER) refl
      where
        go : (b : Bool) → eqb c.operation ENTER ≡ b → suspends t.holder c ≡ false
        go true e = rw (e, (not_others (eqb-true _ _ e)).0) refl
        go false e = rw e refl

    leaving_same : inside t.opened t.holder c ≡ (leaves c && occupied t.holder)
    unfolding inside
    leaving_same = simp (no_suspend, closed, holds_none t q c.caller, and-false, or-false)

    full_same : (eqb c.operation ENTER && entries_full (region_of t c.a) c.caller)
        ≡ (eqb c.operation ENTER && eqb (get_or t.entries c.a 0) most_entries)
    full_same = go (eqb c.operation ENTER) refl
      where
        go : (b : Bool) → eqb c.operation ENTER ≡ b
            → (b && entries_full (region_of t c.a) c.caller) ≡ (b && eqb (get_or t.entries c.a 0) most_entries)
        go true e = (not_others (eqb-true _ _ e)).1
        go false e = refl

    no_circle_lem : closes_circle t.awaits t.holder c ≡ false
    unfolding closes_circle
    no_circle_lem = rw no_suspend refl

    stops_none : stops_holder t.opened t.holder c ≡ false
    unfolding stops_holder
    stops_none = rw (holds_none t q c.a, holds_none t q c.caller) (go c.operation)
      where
        go : (n : ℕ) → by_operation false n (false ∷ false ∷ false ∷ []) ≡ false
        go zero = refl
        go (suc zero) = refl
        go (suc (suc zero)) = refl
        go (suc (suc (suc n))) = refl

  refusal_same : (c : Call) → refusal t c ≡ former_refusal t c
  unfolding refusal reasons former_refusal former_reasons every
  refusal_same c =
      first_append (before (valid t) t c) now refl
      ∙ rw (← validity_same t q) (go (is_zero (first (before (valid t) t c))) refl)
      ∙ sym (first_append (before (former_valid t) t c) then refl)
    where
      now : List Reason
      now =
          behind (inside t.opened t.holder c) (entries_full (region_of t c.a) c.caller)
          (when 24 (closes_circle t.awaits t.holder c) ∷ when 25 (stops_holder t.opened t.holder c) ∷ []) t c

      then : List Reason
      then = behind (leaves c && occupied t.holder) (eqb (get_or t.entries c.a 0) most_entries) [] t c

      go : (b : Bool) → is_zero (first (before (valid t) t c)) ≡ b
          → cond (is_zero (first (before (valid t) t c))) (first now) (first (before (valid t) t c))
          ≡ cond (is_zero (first (before (valid t) t c))) (first then) (first (before (valid t) t c))
      go false e = rw e refl
      go true e =
          let (a, (b, (d, (f, (g, (h, rest)))))) = first_none (before (valid t) t c) refl (eqb-true _ 0 e) in
          rw (e, leaving_same c d f h, full_same c d f h, no_circle_lem c d f h, stops_none c d f h) refl

  -- ---- effects

  line_same : (i : ℕ) → set t.awaits i 0 ≡ t.awaits
  line_same i = ap (set t.awaits i) (sym (none_waits t q i)) ∙ set-get_or t.awaits i 0

  no_heir : (r : ℕ) → hands_on r t ≡ false
  no_heir r =
      let none = (heir_nobody t.priority t.awaits t.opened t.holder (small t p) r).1 (λ i k. rw (none_waits t q i) (ne_eqb 0 (suc r) (λ e. omega arith))) in
      simp (none, and-false)

  module _ (c : Call) where
    abbrev Same : ℕ → Type 0
    Same n = Accepted t (numbered n c) → by_operation nothing n operations t c ≡ by_operation nothing n former_operations t c

    kept : {x : Effect} → {n : ℕ} → Accepted t (numbered n c) → x ≡ x
    kept o = refl

    effect_same : Accepted t c → effect t c ≡ former_effect t c
    unfolding effect former_effect
    effect_same o =
        upto 13 Same
        (kept
        & (λ a. ap (λ ws. plain (with_line ws (former_stopped c.a t))) (line_same c.a))
        & (λ a. ap (λ ws. plain (with_line ws (former_stopped c.caller t))) (line_same c.caller))
        & kept & kept & kept
        & (λ a. rw (not_others (numbered ENTER c) a.barred a.not_elected a.nothing_missing refl).0 refl)
        & (λ a. rw (no_heir c.a) refl)
        & kept & kept & kept & kept & kept & tt)
        c.operation (let l = ltb-false TICK c.operation o.known in omega arith) o

    -- none of them touches a line
    lines_kept : c.operation < 13 → (former_effect t c).table.awaits ≡ t.awaits
    unfolding former_effect ticked
    lines_kept l =
        upto 13 (λ n. (by_operation nothing n former_operations t c).table.awaits ≡ t.awaits)
        (refl & refl & refl & refl & refl & refl & refl & refl & refl & refl & refl & refl
        & ringing_same (λ u. u.awaits) (λ i g u. refl) (later t.ticks 1) t.timers t & tt)
        c.operation l

    closed_then : Accepted t c → ClosedOnly (effect t c).table
    closed_then o =
        record {
          opened = ap (λ f. f.opened) (frame_kept t c) ∙ q.opened;
          awaits = ap (λ e. e.table.awaits) (effect_same o) ∙ lines_kept (let l = ltb-false TICK c.operation o.known in omega arith) ∙ q.awaits;
        }

    -- ---- and the election behind

    accepted_same : Accepted t c → accepted t.elected (effect t c) ≡ former_accepted t.elected (former_effect t c)
    accepted_same o =
        let e = effect t c in
        let u = e.table in
        let closed-now : ClosedOnly (settled u) = record { opened = (closed_then o).opened; awaits = (closed_then o).awaits } in
        let pu = parts_of (settled u) (effect_keeps t p c o v) in
        let who = valid_elects (settled u) closed-now pu in
        let states = states_all (settled u) closed-now (length_states_of (settled u) pu.shape) in
        ap (λ w. done (with_elected w u) e.status e.given.element e.given.criterion (displaced_by t.elected (states_of u) w)) who
        ∙ ap (λ s. done (with_elected (former_election u) u) e.status e.given.element e.given.criterion (displaced_by t.elected s (former_election u))) states
        ∙ ap (former_accepted t.elected) (effect_same o)

-- ---- one call, and any number

damaged_same : (t : Table) (c : Call) → valid t ≡ false → former_valid t ≡ false → step t c ≡ former_step t c
unfolding step former_step refusal former_refusal reasons former_reasons
damaged_same t c d f = simp (d, f)

step_same : (t : Table) (c : Call) → ClosedOnly t → step t c ≡ former_step t c
unfolding step former_step
step_same t c q = go (valid t) refl
  where
    go : (b : Bool) → valid t ≡ b → step t c ≡ former_step t c
    go false d = damaged_same t c d (sym (validity_same t q) ∙ d)
    go true v = rw (← refusal_same t q v c) (then (is_zero (refusal t c)) refl)
      where
        then : (b : Bool) → is_zero (refusal t c) ≡ b
            → cond (is_zero (refusal t c)) (accepted t.elected (effect t c)) (refused t (refusal t c))
            ≡ cond (is_zero (refusal t c)) (former_accepted t.elected (former_effect t c)) (refused t (refusal t c))
        then true z = rw z (accepted_same t q v c (accepted_facts t c (eqb-true _ 0 z)))
        then false z = rw z refl

closed_kept : (t : Table) (c : Call) → ClosedOnly t → ClosedOnly (step t c).table
unfolding step
closed_kept t c q = go (is_zero (refusal t c)) refl
  where
    go : (b : Bool) → is_zero (refusal t c) ≡ b → ClosedOnly (step t c).table
    go true z =
        let o = accepted_facts t c (eqb-true _ 0 z) in
        let then = closed_then t q o.is_valid c o in
        rw z (record { opened = then.opened; awaits = then.awaits })
    go false z = rw z q

answers_same : (t : Table) (cs : List Call) → ClosedOnly t → (answers_to step t cs ≡ answers_to former_step t cs) × ClosedOnly (after_all t cs)
answers_same t [] q = (refl, q)
answers_same t (c ∷ cs) q =
    let rest = answers_same (step t c).table cs (closed_kept t c q) in
    (ap (λ others. (step t c).answer ∷ others) rest.0 ∙ ap (λ d. d.answer ∷ answers_to former_step d.table cs) (step_same t c q), rest.1)

-- ---- how it begins

zeros_padded : (room : ℕ) (xs : List ℕ) → length xs ≤ room → every is_zero xs ≡ true → padded room 0 xs ≡ replicate room 0
unfolding padded
zeros_padded room [] l z = let all : room - 0 ≡ room = omega arith in rw all refl
zeros_padded zero (x ∷ xs) l z = absurd (omega arith)
zeros_padded (suc room) (x ∷ xs) l z =
    let less : suc room - suc (length xs) ≡ room - length xs = omega arith in
    rw (eqb-true x 0 (every_head is_zero x xs z), less) (ap (λ l. 0 ∷ l) (zeros_padded room xs (omega arith) (every_tail is_zero x xs z)))

pub closed_as_before : ClosedAsBefore
unfolding fresh_table configuration_in_range
closed_as_before =
    record {
      same_validity = validity_same;
      same_step = step_same;
      stays = closed_kept;
      same_answers = answers_same;
      begins =
          λ tasks regions queues priorities bounds marks h z.
          let few = (counts_fit tasks regions queues (given _ h).0).1 in
          let short : length (take regions marks) ≤ region_room = simp length-take (omega arith) in
          record { opened = zeros_padded region_room (take regions marks) short z; awaits = refl };
    }
