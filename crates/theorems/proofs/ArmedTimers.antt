-- Laws of one timer, and of all of them: what keeps a timer right, and who disarms it.
use Prim.Native.Nat.{ℕ, zero, suc, ◌<◌, ◌≤◌}
use mathlib.Core.Path.{◌≡◌, refl, sym, ap, ◌∙◌, fun_ext}
use mathlib.Core.Logic.{◌≢◌}
use mathlib.Core.Bool.{Bool, true, false, ◌&&◌}
use mathlib.Core.List.{List, [], ◌∷◌, map}
use native.Mathlib.Omega.{arith}
use lib.Dec.{eqb, ltb}
use lib.ListN.{length, set, get_or-map}
use lib.Seq.{get_or-set_same, get_or-set_other}
use borrow.Author.Tests.{eqb-true, eqb-false, ne_eqb, ltb-true, leb-true, lt-ltb, le-leb, not-true}
use Rattle.rules.specs.declared.Timer.{Timer}
use Rattle.rules.specs.Numbers.{event_end, tick_end, longest_delay}
use Rattle.rules.specs.Words.{every, altered}
use Rattle.rules.specs.Tasks.{stopped}
use Rattle.rules.specs.Timers.{later, ahead, idle, is_armed, as_armed, armed_by, disarmed, is_due, rung}
use Rattle.rules.specs.Tables.{timer_of}
use Rattle.rules.specs.Validity.{timer_right, timers_right}
use Rattle.rules.specs.Refusals.{stopped_at}
use Rattle.theorems.specs.Tasks.{DisarmIdle, StopDisarms}
use Rattle.rules.proofs.Bools.{given, shown, and_left, and_right, both, not_intro}
use Rattle.rules.proofs.Lists.{every_head, every_tail, every_cons, every_nil}
use Rattle.rules.proofs.Clock.{later_fits, ahead_later, ahead_next, reached}

-- ---- every entry of a list, changed

pub every_map {ℓ} : {A : Type ℓ} (p q : A → Bool) (f : A → A) → ((x : A) → p x ≡ true → q (f x) ≡ true) → (xs : List A) → every p xs ≡ true
    → every q (map f xs) ≡ true
every_map p q f k [] h = every_nil q
every_map p q f k (x ∷ xs) h =
    every_cons q (f x) (map f xs) (k x (every_head p x xs h)) (every_map p q f k xs (every_tail p x xs h))

pub every_kept {ℓ} : {A : Type ℓ} (p q : A → Bool) → ((x : A) → p x ≡ true → q x ≡ true) → (xs : List A) → every p xs ≡ true → every q xs ≡ true
every_kept p q k [] h = every_nil q
every_kept p q k (x ∷ xs) h = every_cons q x xs (k x (every_head p x xs h)) (every_kept p q k xs (every_tail p x xs h))

pub every_altered {ℓ} : {A : Type ℓ} (p : A → Bool) (f : A → A) → ((x : A) → p x ≡ true → p (f x) ≡ true) → (i : ℕ) (xs : List A)
    → every p xs ≡ true → every p (altered i f xs) ≡ true
every_altered p f k i [] h = h
every_altered p f k zero (x ∷ xs) h = every_cons p (f x) xs (k x (every_head p x xs h)) (every_tail p x xs h)
every_altered p f k (suc i) (x ∷ xs) h =
    every_cons p x (altered i f xs) (every_head p x xs h) (every_altered p f k i xs (every_tail p x xs h))

-- ---- one timer

-- what a valid table says of an armed one
pub record Counting (tasks : ℕ) (states : List ℕ) (ticks : ℕ) (r : Timer) : Type 0 where
  pub owner_there : r.owner < tasks
  pub awake : stopped_at states r.owner ≡ false
  pub event_there : r.event < event_end
  date_fits : r.date < tick_end
  to_come : 0 < ahead r.date ticks
  pub near : ahead r.date ticks ≤ longest_delay

module _ {tasks : ℕ} {states : List ℕ} {ticks : ℕ} (r : Timer) where
  pub timer_given : is_armed r ≡ true → timer_right tasks states ticks r ≡ true → Counting tasks states ticks r
  unfolding timer_right
  timer_given a h =
      let (o, (s, (e, (d, (z, (n, rest)))))) = given _ (rw a at h) in
      record {
        owner_there = ltb-true _ _ o;
        awake = not-true _ s;
        event_there = ltb-true _ _ e;
        date_fits = ltb-true _ _ d;
        to_come = ltb-true _ _ z;
        near = leb-true _ _ n;
      }

  timer_shown : is_armed r ≡ true → Counting tasks states ticks r → timer_right tasks states ticks r ≡ true
  unfolding timer_right
  timer_shown a c =
      rw a
      (shown _ (
        lt-ltb _ _ c.owner_there,
        (not_intro _ c.awake, (lt-ltb _ _ c.event_there, (lt-ltb _ _ c.date_fits, (lt-ltb _ _ c.to_come, (le-leb _ _ c.near, tt))))),
      ))

-- of the states it matters who is stopped
pub timer_states : (tasks : ℕ) (states states' : List ℕ) (ticks : ℕ) → ((i : ℕ) → stopped_at states i ≡ stopped_at states' i) → (r : Timer)
    → timer_right tasks states ticks r ≡ timer_right tasks states' ticks r
unfolding timer_right
timer_states tasks states states' ticks k r = rw (k r.owner)

module _ (tasks : ℕ) (states : List ℕ) (ticks : ℕ) where
  pub idle_right : timer_right tasks states ticks idle ≡ true
  unfolding timer_right
  idle_right = shown _ (refl, (refl, (refl, (refl, tt))))

  -- states and counter matter to a timer that is armed
  timer_kept : (states' : List ℕ) (ticks' : ℕ) (r : Timer)
      → (is_armed r ≡ true → Counting tasks states ticks r → Counting tasks states' ticks' r) → timer_right tasks states ticks r ≡ true
      → timer_right tasks states' ticks' r ≡ true
  unfolding timer_right
  timer_kept states' ticks' r k h = go (is_armed r) refl
    where
      go : (b : Bool) → is_armed r ≡ b → timer_right tasks states' ticks' r ≡ true
      go true a = timer_shown r a (k a (timer_given r a h))
      go false a = rw a (rw a at h)

  -- ARM: the date lies as many ticks ahead as the delay says
  pub armed_right : ticks < tick_end → (caller event delay : ℕ) → caller < tasks → stopped_at states caller ≡ false → event < event_end → 0 < delay
      → delay ≤ longest_delay → (r : Timer) → timer_right tasks states ticks (as_armed caller event (later ticks delay) r) ≡ true
  armed_right n caller event delay l a e z d r =
      let date : ahead (later ticks delay) ticks ≡ delay = ahead_later ticks delay n (omega arith) in
      timer_shown (as_armed caller event (later ticks delay) r) refl
      (record { owner_there = l; awake = a; event_there = e; date_fits = later_fits ticks delay; to_come = rw date z; near = rw date d })

module _ (tasks : ℕ) (states : List ℕ) (ticks : ℕ) (r : Timer) (h : timer_right tasks states ticks r ≡ true) where
  -- DISARM
  pub disarmed_right : (task : ℕ) → timer_right tasks states ticks (disarmed task r) ≡ true
  disarmed_right task = go (armed_by task r) refl
    where
      go : (b : Bool) → armed_by task r ≡ b → timer_right tasks states ticks (disarmed task r) ≡ true
      go true a = rw a (idle_right tasks states ticks)
      go false a = rw a h

  -- a task that is not stopped now may own it
  pub awake_right : (task state : ℕ) → task < length states → eqb state stopped ≡ false → timer_right tasks (set states task state) ticks r ≡ true
  awake_right task state l n =
      timer_kept tasks states ticks (set states task state) ticks r
      (λ armed c.
      record {
        owner_there = c.owner_there;
        awake = still c.awake (eqb r.owner task) refl;
        event_there = c.event_there;
        date_fits = c.date_fits;
        to_come = c.to_come;
        near = c.near;
      })
      h
    where
      still : stopped_at states r.owner ≡ false → (b : Bool) → eqb r.owner task ≡ b → stopped_at (set states task state) r.owner ≡ false
      still w true e = rw (eqb-true r.owner task e, get_or-set_same states task state 0 l) n
      still w false e = rw (get_or-set_other states task r.owner state 0 (eqb-false _ _ e)) w

  -- STOP and END: a timer that stays armed is another task's
  pub stopped_right : (task state : ℕ) → timer_right tasks (set states task state) ticks (disarmed task r) ≡ true
  stopped_right task state = go (armed_by task r) refl
    where
      go : (b : Bool) → armed_by task r ≡ b → timer_right tasks (set states task state) ticks (disarmed task r) ≡ true
      go true a = rw a (idle_right tasks (set states task state) ticks)
      go false a =
          rw a
          (timer_kept tasks states ticks (set states task state) ticks r
          (λ armed c.
          record {
            owner_there = c.owner_there;
            awake = ap (λ s. eqb s 0) (get_or-set_other states task r.owner state 0 (eqb-false r.owner task (simp armed at a))) ∙ c.awake;
            event_there = c.event_there;
            date_fits = c.date_fits;
            to_come = c.to_come;
            near = c.near;
          })
          h)

  -- it is due at the tick that its date lies one ahead of
  pub due_last : ticks < tick_end → is_armed r ≡ true → is_due (later ticks 1) r ≡ eqb (ahead r.date ticks) 1
  due_last n a = rw a (reached r.date ticks (timer_given r a h).date_fits n)

  -- TICK: one that is not due lies one tick nearer
  pub rung_right : ticks < tick_end → timer_right tasks states (later ticks 1) (rung (later ticks 1) r) ≡ true
  rung_right n = go (is_due (later ticks 1) r) refl
    where
      go : (b : Bool) → is_due (later ticks 1) r ≡ b → timer_right tasks states (later ticks 1) (rung (later ticks 1) r) ≡ true
      go true a = rw a (idle_right tasks states (later ticks 1))
      go false a =
          rw a
          (timer_kept tasks states ticks states (later ticks 1) r
          (λ armed c.
          let not-one : ahead r.date ticks ≢ 1 = eqb-false _ 1 (sym (due_last n armed) ∙ a) in
          let next = ahead_next r.date ticks n c.to_come in
          let some = c.to_come in
          let most = c.near in
          record {
            owner_there = c.owner_there;
            awake = c.awake;
            event_there = c.event_there;
            date_fits = c.date_fits;
            to_come = omega arith;
            near = omega arith;
          })
          h)

-- ---- who disarms it

-- DISARM, STOP and END touch the task's own timers alone; "DISARM of an idle one changes nothing"
pub disarm_others : (task : ℕ) (r : Timer) → eqb task r.owner ≡ false → disarmed task r ≡ r
disarm_others task r n = go (is_armed r) refl
  where
    go : (b : Bool) → is_armed r ≡ b → disarmed task r ≡ r
    go true a = simp (a, ne_eqb r.owner task (λ s. eqb-false task r.owner n (sym s)))
    go false a = simp a

pub disarm_idle : DisarmIdle
disarm_idle task = refl

-- and all of them
disarm_own : (task : ℕ) (r : Timer) → armed_by task (disarmed task r) ≡ false
disarm_own task r = go (armed_by task r) refl
  where
    go : (b : Bool) → armed_by task r ≡ b → armed_by task (disarmed task r) ≡ false
    go true a = rw a refl
    go false a = rw a a

pub stop_disarms : StopDisarms
stop_disarms t task i = ap (armed_by task) (get_or-map (disarmed task) t.timers i idle) ∙ disarm_own task (timer_of t i)

-- ---- all timers

module _ (tasks : ℕ) (states : List ℕ) (ticks : ℕ) (timers : List Timer) where
  pub counter_fits : timers_right tasks states ticks timers ≡ true → ticks < tick_end
  unfolding timers_right
  counter_fits h = ltb-true ticks tick_end (and_left _ _ h)

  pub each_right : timers_right tasks states ticks timers ≡ true → every (timer_right tasks states ticks) timers ≡ true
  unfolding timers_right
  each_right h = and_right (ltb ticks tick_end) _ h

  pub timers_shown : ticks < tick_end → every (timer_right tasks states ticks) timers ≡ true → timers_right tasks states ticks timers ≡ true
  unfolding timers_right
  timers_shown n h = both (lt-ltb ticks tick_end n) h

-- of the states it matters who is stopped
pub timers_states : (tasks : ℕ) (states states' : List ℕ) (ticks : ℕ) (timers : List Timer) → ((i : ℕ) → stopped_at states i ≡ stopped_at states' i)
    → timers_right tasks states ticks timers ≡ timers_right tasks states' ticks timers
unfolding timers_right
timers_states tasks states states' ticks timers k =
    ap (λ p. ltb ticks tick_end && every p timers) (fun_ext (timer_states tasks states states' ticks k))
