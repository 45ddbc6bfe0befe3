-- What an accepted call knows: who calls, which task it changes, and that its numbers fit.
use Rattle.std.proofs.Common.{◌≡◌, ℕ, zero, suc, ◌+◌, ◌%◌, ◌<◌, ◌≤◌, Bool, true, false, cond, not, ◌&&◌, ◌||◌, eqb, ltb, ◌≢◌, ◌⊎◌, List, [], ◌∷◌, get_or, set, sym, refl, ap, ◌∙◌, inl, inr, ⊎_elim, true≢false, mod-eq_of_lt, add-one, arith, ltb-false, ltb-true, ne_eqb, eqb-true, leb-true}
use borrow.Author.Tests.{eqb-false, not-false}
use Rattle.rules.specs.declared.Task.{Task}
use Rattle.rules.specs.declared.Region.{Region}
use Rattle.rules.specs.declared.Timer.{Timer}
use Rattle.rules.specs.declared.Table.{Table}
use Rattle.rules.specs.declared.Call.{Call}
use Rattle.rules.specs.Numbers.{task_room, region_room, most_entries, timer_room, event_end, list_end, outside, nobody, STOP, END, SIGNAL, WAIT, CLEAR, ENTER, EXIT, ARM, DISARM, TICK}
use Rattle.rules.specs.Words.{is_zero, names}
use Rattle.rules.specs.Queues.{no_pair}
use Rattle.rules.specs.Events.{met}
use Rattle.rules.specs.Tasks.{stopped, waited}
use Rattle.rules.specs.Regions.{held_by_other, exited}
use Rattle.rules.specs.Timers.{idle, later, as_armed, disarmed}
use Rattle.rules.specs.Tables.{task_of, region_of, heir_of, changed, with_region, with_awaits, with_timers}
use Rattle.rules.specs.Validity.{counts_in_range, entries_fit}
use Rattle.rules.specs.Refusals.{missing, bad_list, wrong_state}
use Rattle.rules.specs.Effects.{Effect, plain, enter, hand_on, hands_on, exit, effect}
use Rattle.rules.proofs.Bools.{given, or_left, or_right}
use Rattle.rules.proofs.Rules.{Parts}
use Rattle.rules.proofs.ValidTasks.{priority_small, elected_ready, elected_below}
use Rattle.rules.proofs.ValidRegions.{entries_fit_lem}
use Rattle.rules.proofs.Validity.{parts_of}
use Rattle.rules.proofs.Refusals.{Accepted}
use Rattle.rules.proofs.Entries.{entries_most, region_back}
use Rattle.rules.proofs.Heirs.{heir_inherits}
use Rattle.rules.proofs.Lists.{altered_set}
use Rattle.rules.proofs.Effects.{upto}
use Rattle.tasks.specs.Effects.{target, task_after}
use Rattle.regions.specs.Effects.{others_region, region_entered, region_left}
use Rattle.timers.specs.Effects.{timer_after, timers_left}

-- an entry stored again where it stands
pub set_own : (xs : List ℕ) (i : ℕ) → set xs i (get_or xs i 0) ≡ xs
set_own [] i = refl
set_own (x ∷ xs) zero = refl
set_own (x ∷ xs) (suc i) = ap (λ ys. x ∷ ys) (set_own xs i)

module _ (t : Table) (c : Call) (a : Accepted t c) where
  parts : Parts t
  parts = parts_of t a.is_valid

  -- ---- who calls

  inside : (x y : Bool) → (x && true) ≡ false → (not x && not y) ≡ false → (x ≡ false) × (y ≡ true)
  inside true y h k = absurd (true≢false h)
  inside false y h k = (refl, not-false y k)

  -- all but SIGNAL and TICK are called by the elected task
  pub caller_is : c.operation ≢ SIGNAL → c.operation ≢ TICK → (c.caller ≢ outside) × (c.caller ≡ t.elected)
  caller_is n m =
      let p = inside (eqb c.caller outside) (eqb c.caller t.elected) (rw (ne_eqb c.operation SIGNAL n, ne_eqb c.operation TICK m) at a.barred) a.not_elected in
      (eqb-false c.caller outside p.0, eqb-true c.caller t.elected p.1)

  pub caller_below : c.operation ≢ SIGNAL → c.operation ≢ TICK → c.caller < t.tasks
  caller_below n m = let p = caller_is n m in rw p.1 (elected_below t parts (λ z. p.0 (p.1 ∙ z)))

  -- ---- the counts

  pub tasks_fit : t.tasks ≤ task_room
  unfolding counts_in_range
  tasks_fit = leb-true t.tasks task_room (given _ parts.counts).1.0

  pub regions_fit : t.regions ≤ region_room
  unfolding counts_in_range
  regions_fit = leb-true t.regions region_room (given _ parts.counts).1.1.0

  -- ---- the numbers of the call fit

  within : (x n : ℕ) → not (ltb x n) ≡ false → x < n
  within x n h = ltb-true x n (not-false (ltb x n) h)

  list_below : (l : ℕ) → bad_list l ≡ false → l < list_end
  list_below l h = let most = ltb-false 65535 l (or_right (is_zero l) _ h) in omega arith

  event_fits : c.operation ≡ SIGNAL → c.a % event_end ≡ c.a
  unfolding missing
  event_fits e = mod-eq_of_lt (within c.a event_end (or_left _ _ (rw e at a.nothing_missing)))

  waited_fits : c.operation ≡ WAIT → c.a % list_end ≡ c.a
  unfolding missing
  waited_fits e = mod-eq_of_lt (list_below c.a (rw e at a.nothing_missing))

  cleared_fits : c.operation ≡ CLEAR → c.a % list_end ≡ c.a
  unfolding missing
  cleared_fits e = mod-eq_of_lt (list_below c.a (rw e at a.nothing_missing))

  operator_fits : c.operation ≡ WAIT → c.b % 256 ≡ c.b
  operator_fits e = mod-eq_of_lt (let h = ltb-false 1 c.b (rw e at a.operator_fits) in omega arith)

  -- ---- which task

  abbrev TargetBelow : ℕ → Type 0
  TargetBelow n = c.operation ≡ n → target c < t.tasks

  pub target_below : c.operation < ENTER → target c < t.tasks
  unfolding target missing
  target_below h =
      upto ENTER TargetBelow (
        λ e. rw e (within c.a t.tasks (rw e at a.nothing_missing)),
        (
          λ e. rw e (within c.a t.tasks (rw e at a.nothing_missing)),
          (
            λ e. rw e (caller_below (omega arith) (omega arith)),
            (
              λ e. rw e (within c.b t.tasks (or_right (not (ltb c.a event_end)) _ (rw e at a.nothing_missing))),
              (
                λ e. rw e (caller_below (omega arith) (omega arith)),
                (λ e. rw e (caller_below (omega arith) (omega arith)), tt),
              ),
            ),
          ),
        ),
      )
      c.operation h refl

  -- ---- a task that STOP or END names isn't stopped yet

  ends_alive : c.operation ≡ END → get_or t.state c.caller 0 ≢ stopped
  ends_alive e =
      let p = caller_is (omega arith) (omega arith) in
      let ready = eqb-true _ _ (elected_ready t parts (λ z. p.0 (p.1 ∙ z))) in
      let same : get_or t.state c.caller 0 ≡ 1 = ap (λ i. get_or t.state i 0) p.1 ∙ ready in
      λ z. absurd (omega arith)

  stops_alive : c.operation ≡ STOP → get_or t.state c.a 0 ≢ stopped
  unfolding wrong_state
  stops_alive e = eqb-false _ _ (rw e at a.right_state)

  -- so such a call changes the task's state
  pub still_runs : (i : ℕ) → i ≡ target c → (after : Task) → after ≡ task_after c (task_of t i) → after.state ≡ get_or t.state i 0
      → (eqb c.operation STOP || eqb c.operation END) ≡ false
  unfolding target task_after
  still_runs i is after p same = go (eqb c.operation STOP) refl (eqb c.operation END) refl
    where
      go : (x : Bool) → eqb c.operation STOP ≡ x → (y : Bool) → eqb c.operation END ≡ y
          → (eqb c.operation STOP || eqb c.operation END) ≡ false
      go true e y f =
          let o = eqb-true c.operation STOP e in
          absurd (stops_alive o (sym (rw (is, o) at same) ∙ rw o at (ap (λ r. r.state) p)))
      go false e true f =
          let o = eqb-true c.operation END f in
          absurd (ends_alive o (sym (rw (is, o) at same) ∙ rw o at (ap (λ r. r.state) p)))
      go false e false f = rw (e, f)

  -- ---- the first six operations as one change of one task, and of its timers and its place in a line where it is stopped

  abbrev task_effect : Effect
  task_effect =
      record {
        table =
            with_awaits (target c) (cond (eqb c.operation STOP || eqb c.operation END) 0 (get_or t.awaits (target c) 0))
            (with_timers t.ticks (timers_left c.operation (target c) t.timers) (changed (target c) (task_after c) t));
        status = cond (eqb c.operation WAIT && not (met (c.b % 256) (c.a % 65536) (task_of t (target c)).arrived)) 1 0;
        given = no_pair;
      }

  pub task_effect_lem : c.operation < ENTER → effect t c ≡ task_effect
  unfolding effect target task_after
  task_effect_lem h =
      upto ENTER (λ n. c.operation ≡ n → effect t c ≡ task_effect) (
        λ e. rw (e, set_own t.awaits c.a) refl,
        (
          λ e. rw e refl,
          (
            λ e. rw e refl,
            (
              λ e. rw (e, event_fits e, set_own t.awaits c.b) refl,
              (
                λ e. rw (e, waited_fits e, operator_fits e, set_own t.awaits c.caller) (waits c.caller),
                (λ e. rw (e, cleared_fits e, set_own t.awaits c.caller) refl, tt),
              ),
            ),
          ),
        ),
      )
      c.operation h refl
    where
      -- the status of WAIT, said the other way round
      flip : (b : Bool) → ◌≡◌ {A = ℕ} (cond b 0 1) (cond (not b) 1 0)
      flip true = refl
      flip false = refl

      with_status : ℕ → ℕ → Effect
      with_status i s = record { table = changed i (waited c.a c.b) t; status = s; given = no_pair }

      waits : (i : ℕ) → with_status i (cond (met c.b c.a (task_of t i).arrived) 0 1) ≡ with_status i (cond (not (met c.b c.a (task_of t i).arrived)) 1 0)
      waits i = ap (with_status i) (flip (met c.b c.a (task_of t i).arrived))

  -- ---- ENTER and EXIT as one change of one region and of who waits for it

  pub enter_there : c.operation ≡ ENTER → c.a < t.regions
  unfolding missing
  enter_there e = within c.a t.regions (rw e at a.nothing_missing)

  pub exit_there : c.operation ≡ EXIT → c.a < t.regions
  unfolding missing
  exit_there e = within c.a t.regions (rw e at a.nothing_missing)

  abbrev region : Region
  region = region_of t c.a

  -- the count of a region that the caller enters fits: a free one's is 0, and its own is not at its end
  entries_counted : c.operation ≡ ENTER → held_by_other c.caller region ≡ false → (region.entries + 1) % 256 ≡ suc region.entries
  entries_counted e o = go (is_zero region.holder) refl
    where
      fit : entries_fit region.holder region.entries ≡ true
      fit = entries_fit_lem t parts c.a (omega (arith, enter_there e, regions_fit))

      most : region.entries ≤ most_entries
      most = entries_most region.holder region.entries fit

      go : (b : Bool) → is_zero region.holder ≡ b → (region.entries + 1) % 256 ≡ suc region.entries
      go true z = let none : region.entries ≡ 0 = eqb-true _ 0 (rw z at fit) in rw none refl
      go false z =
          let own = not-false (names region.holder c.caller) (rw z at o) in
          let more : region.entries ≢ most_entries = eqb-false region.entries most_entries (rw (e, own) at a.may_enter) in
          mod-eq_of_lt (omega (arith, more, most)) ∙ add-one region.entries

  pub enter_effect : c.operation ≡ ENTER
      → effect t c
      ≡ record {
        table =
            with_awaits c.caller (cond (others_region (suc c.caller) region) (suc c.a) (get_or t.awaits c.caller 0))
            (with_region c.a (region_entered (suc c.caller) region) t);
        status = cond (others_region (suc c.caller) region) 1 0;
        given = no_pair;
      }
  unfolding effect region_entered
  enter_effect e = rw e (go (held_by_other c.caller region) refl)
    where
      after : Bool → Effect
      after o =
          record {
            table =
                with_awaits c.caller (cond o (suc c.a) (get_or t.awaits c.caller 0))
                (with_region c.a (cond o region (record { holder = suc c.caller; entries = (region.entries + 1) % 256 })) t);
            status = cond o 1 0;
            given = no_pair;
          }

      go : (o : Bool) → held_by_other c.caller region ≡ o → enter t c ≡ after (held_by_other c.caller region)
      go true o = rw o (ap (λ u. record { table = with_awaits c.caller (suc c.a) u; status = 1; given = no_pair }) (sym (region_back c.a t)))
      go false o = rw (o, entries_counted e o, set_own t.awaits c.caller) refl

  -- who gets the region at an EXIT, as the code finds it
  abbrev heir_then : ℕ
  heir_then = cond (eqb region.entries 1) (heir_of t c.a) nobody

  pub heir_known : heir_then ≢ nobody → heir_then < task_room
  heir_known n = go (eqb region.entries 1) refl n
    where
      go : (b : Bool) → eqb region.entries 1 ≡ b → cond b (heir_of t c.a) nobody ≢ nobody → cond b (heir_of t c.a) nobody < task_room
      go true e m =
          (heir_inherits t.priority t.awaits t.opened t.holder (priority_small t parts.tasks) c.a m).known
      go false e m = absurd (m refl)

  pub exit_effect : c.operation ≡ EXIT
      → effect t c
      ≡ plain
      (with_awaits (heir_then % task_room) (cond (eqb heir_then nobody) (get_or t.awaits (heir_then % task_room) 0) 0)
      (with_region c.a (region_left heir_then region) t))
  unfolding effect region_left
  exit_effect e = rw e (go (eqb region.entries 1) refl (eqb (heir_of t c.a) nobody) refl)
    where
      after : ℕ → Effect
      after x =
          plain
          (with_awaits (x % task_room) (cond (eqb x nobody) (get_or t.awaits (x % task_room) 0) 0)
          (with_region c.a (cond (eqb x nobody) (exited region) (record { holder = (x + 1) % 256; entries = 1 })) t))

      stays : after nobody ≡ plain (with_region c.a (exited region) t)
      stays = rw (set_own t.awaits (nobody % task_room)) refl

      free : hands_on c.a t ≡ false → heir_then ≡ nobody → exit t c ≡ after heir_then
      free h k =
          ap (λ b. cond b (plain (hand_on c.a t)) (plain (with_region c.a (exited region) t))) h ∙ sym stays ∙ ap after (sym k)

      go : (b : Bool) → eqb region.entries 1 ≡ b → (n : Bool) → eqb (heir_of t c.a) nobody ≡ n → exit t c ≡ after heir_then
      go true o true n = free (rw (o, n) refl) (ap (λ b. cond b (heir_of t c.a) nobody) o ∙ eqb-true (heir_of t c.a) nobody n)
      go true o false n =
          let some : heir_of t c.a ≢ nobody = eqb-false (heir_of t c.a) nobody n in
          let known = (heir_inherits t.priority t.awaits t.opened t.holder (priority_small t parts.tasks) c.a some).known in
          let row : heir_of t c.a % task_room ≡ heir_of t c.a = mod-eq_of_lt known in
          let mine : (heir_of t c.a + 1) % 256 ≡ suc (heir_of t c.a) = mod-eq_of_lt (omega (arith, known)) ∙ add-one (heir_of t c.a) in
          rw (o, n, row, mine) refl
      go false o n k = free (rw o refl) (ap (λ b. cond b (heir_of t c.a) nobody) o)

  -- ---- ARM and DISARM as one change of one timer

  arm_or_disarm : ARM ≤ c.operation → c.operation < TICK → (c.operation ≡ ARM) ⊎ (c.operation ≡ DISARM)
  arm_or_disarm l h = go (eqb c.operation ARM) refl
    where
      go : (b : Bool) → eqb c.operation ARM ≡ b → (c.operation ≡ ARM) ⊎ (c.operation ≡ DISARM)
      go true e = inl (eqb-true c.operation ARM e)
      go false e = let n : c.operation ≢ ARM = eqb-false c.operation ARM e in inr (omega arith)

  pub timer_there : ARM ≤ c.operation → c.operation < TICK → c.a < timer_room
  unfolding missing
  timer_there l h =
      ⊎_elim (λ e. within c.a timer_room (or_left _ _ (rw e at a.nothing_missing)))
      (λ e. within c.a timer_room (rw e at a.nothing_missing))
      (arm_or_disarm l h)

  alarm_fits : c.operation ≡ ARM → c.b % 256 ≡ c.b
  unfolding missing
  alarm_fits e =
      let h = within c.b event_end (or_left _ _ (or_right (not (ltb c.a timer_room)) _ (rw e at a.nothing_missing))) in
      mod-eq_of_lt (omega arith)

  pub timer_effect : ARM ≤ c.operation → c.operation < TICK
      → effect t c ≡ plain (with_timers t.ticks (set t.timers c.a (timer_after c t.ticks (get_or t.timers c.a idle))) t)
  unfolding effect timer_after
  timer_effect l h =
      ⊎_elim (λ e. rw (alarm_fits e, e) (ap with_timers_lem (altered_set (as_armed c.caller c.b (later t.ticks c.c)) c.a idle t.timers)))
      (λ e. rw e (ap with_timers_lem (altered_set (disarmed c.caller) c.a idle t.timers)))
      (arm_or_disarm l h)
    where
      with_timers_lem : List Timer → Effect
      with_timers_lem timers = plain (with_timers t.ticks timers t)
