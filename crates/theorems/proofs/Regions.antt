-- Holders, counts and lines, before and after a call: a closed region is free or the caller's, an open one's holder is ready, and who waits waits for another.
use Prim.Native.Nat.{ℕ, suc, ◌-◌, ◌<◌}
use mathlib.Core.Path.{◌≡◌, refl, sym, ◌∙◌}
use mathlib.Core.Logic.{◌≢◌, ◌⊎◌, inl, inr, ⊎_elim}
use mathlib.Core.Bool.{Bool, true, false, cond, ◌&&◌, ◌||◌}
use mathlib.Core.List.{List}
use native.Mathlib.Omega.{arith}
use lib.Dec.{eqb, ltb, leb}
use lib.ListN.{get_or, set, length}
use lib.Seq.{get_or-set_same, get_or-set_other}
use borrow.Author.Tests.{eqb-true, eqb-false, eq-eqb, le-leb}
use Rattle.rules.specs.declared.Region.{Region}
use Rattle.rules.specs.declared.Table.{Table}
use Rattle.rules.specs.Numbers.{task_room, region_room, nobody}
use Rattle.rules.specs.Words.{is_zero}
use Rattle.rules.specs.Regions.{held, occupied, holder_of}
use Rattle.rules.specs.Election.{ready_at}
use Rattle.rules.specs.Urgency.{is_open, closed_holders}
use Rattle.rules.specs.Circles.{no_circle}
use Rattle.rules.specs.Tables.{states_of, urgencies_of, closed_of, settled}
use Rattle.rules.specs.Validity.{shaped, entries_fit}
use Rattle.rules.specs.Checks.{region_fits, regions_right, entries_everywhere, holder_right, open_holder_fits, open_holders_fit, awaits_fit}
use Rattle.rules.proofs.Bools.{given, and_left, and_right, both, or_cases, or_first, or_second, not_intro}
use Rattle.rules.proofs.Counts.{below_at, below_all}
use Rattle.rules.proofs.Election.{election_held}
use Rattle.rules.proofs.Entries.{regions_long}
use Rattle.rules.proofs.States.{closed_at, length_closed, ready_shown}
use Rattle.rules.proofs.Rules.{Parts, counts_fit}
use Rattle.rules.proofs.ValidTasks.{length_states_of, elected_ready, elected_below}
use Rattle.rules.proofs.ValidRegions.{entries_fit_lem}
use Rattle.theorems.proofs.HeldRegions.{held_at, held_free}

-- ---- every closed region is free or has the entry v

module _ (regions : ℕ) (opened hs : List ℕ) where
  fit_at : (v i : ℕ) → regions_right regions v opened hs ≡ true → i < region_room → region_fits regions v i (get_or opened i 0) (get_or hs i 0) ≡ true
  unfolding regions_right
  fit_at v i fit k = below_at _ region_room i fit k

  mark_at : (v i : ℕ) → regions_right regions v opened hs ≡ true → i < region_room
      → (is_zero (get_or opened i 0) || (ltb i regions && is_open (get_or opened i 0))) ≡ true
  unfolding region_fits
  mark_at v i fit k = and_left _ _ (fit_at v i fit k)

  held_by_lem : (v i : ℕ) → regions_right regions v opened hs ≡ true → i < region_room
      → (is_zero (get_or hs i 0) || (ltb i regions && (is_open (get_or opened i 0) || eqb (get_or hs i 0) v))) ≡ true
  unfolding region_fits
  held_by_lem v i fit k = and_right (is_zero (get_or opened i 0) || (ltb i regions && is_open (get_or opened i 0))) _ (fit_at v i fit k)

  -- where the closed ones are free, that is so for any entry
  refit : (v w : ℕ) → held (closed_holders opened hs) ≡ 0 → regions_right regions v opened hs ≡ true → regions_right regions w opened hs ≡ true
  unfolding regions_right region_fits
  refit v w z fit = below_all _ region_room (λ i k. go i k (is_open (get_or opened i 0)) refl)
    where
      go : (i : ℕ) → i < region_room → (b : Bool) → is_open (get_or opened i 0) ≡ b → region_fits regions w i (get_or opened i 0) (get_or hs i 0) ≡ true
      go i k true e = rw e (rw e at (fit_at v i fit k))
      go i k false e =
          let free : get_or hs i 0 ≡ 0 = sym (closed_at opened hs i k ∙ rw e refl) ∙ held_free (closed_holders opened hs) z i in
          both (mark_at v i fit k) (or_first _ _ (eq-eqb (get_or hs i 0) 0 free))

  module _ (v : ℕ) (fit : regions_right regions v opened hs ≡ true) where
    -- then the first occupied one, if there is one, has it too
    pub held_one : (held (closed_holders opened hs) ≡ 0) ⊎ (held (closed_holders opened hs) ≡ v)
    held_one =
        ⊎_elim inl
        (λ q.
        let k : q.0 < region_room = omega (arith, q.1, length_closed opened hs) in
        at q.0 k (is_open (get_or opened q.0 0)) refl (sym (closed_at opened hs q.0 k) ∙ q.2))
        (held_at (closed_holders opened hs))
      where
        at : (i : ℕ) → i < region_room → (b : Bool) → is_open (get_or opened i 0) ≡ b
            → cond (is_open (get_or opened i 0)) 0 (get_or hs i 0) ≡ held (closed_holders opened hs)
            → (held (closed_holders opened hs) ≡ 0) ⊎ (held (closed_holders opened hs) ≡ v)
        at i k true e same = inl (sym (rw e at same))
        at i k false e same =
            let is : get_or hs i 0 ≡ held (closed_holders opened hs) = rw e at same in
            ⊎_elim (λ z. inl (sym is ∙ eqb-true _ 0 z)) (λ w. inr (sym is ∙ eqb-true _ v (and_right (ltb i regions) _ w)))
            (or_cases (is_zero (get_or hs i 0)) _ (rw e at (held_by_lem v i fit k)))

    pub own_fits : regions_right regions (held (closed_holders opened hs)) opened hs ≡ true
    own_fits = ⊎_elim (λ z. refit v (held (closed_holders opened hs)) z fit) (λ e. rw e fit) held_one

    -- one entry changed
    pub set_fits : (a h : ℕ) → a < length hs → region_fits regions v a (get_or opened a 0) h ≡ true → regions_right regions v opened (set hs a h) ≡ true
    unfolding regions_right
    set_fits a h l new = below_all _ region_room (λ i k. go i k (eqb i a) refl)
      where
        go : (i : ℕ) → i < region_room → (b : Bool) → eqb i a ≡ b → region_fits regions v i (get_or opened i 0) (get_or (set hs a h) i 0) ≡ true
        go i k true e = rw (eqb-true i a e, get_or-set_same hs a h 0 l) new
        go i k false e = rw (get_or-set_other hs a i h 0 (eqb-false i a e)) (fit_at v i fit k)

-- ---- the table with other holders, counts and lines

-- while a closed region is occupied its holder is elected
pub holder_elected_lem : (t : Table) → Parts t → occupied (closed_of t) ≡ true → t.elected ≡ holder_of (closed_of t)
holder_elected_lem t p h = p.elected ∙ election_held (states_of t) (urgencies_of t) (closed_of t) h

pub lines_long : (t : Table) → shaped t ≡ true → length t.awaits ≡ task_room
unfolding shaped
lines_long t s = eqb-true _ _ (given _ s).1.1.1.1.1.1.1.1.1.1.1.1.0

-- a region that exists has an entry
pub region_room_lem : (t : Table) → Parts t → (a : ℕ) → a < t.regions → a < region_room
region_room_lem t p a l = omega (arith, (counts_fit _ _ _ p.counts).1)

pub region_there : (t : Table) → Parts t → (a : ℕ) → a < t.regions → a < length t.holder
region_there t p a l = omega (arith, (regions_long t p.shape).0, (counts_fit _ _ _ p.counts).1)

abbrev pub with_held : List ℕ → List ℕ → List ℕ → Table → Table
with_held holders entries awaits t =
    record {
      tasks = t.tasks;
      regions = t.regions;
      queues = t.queues;
      elected = t.elected;
      priority = t.priority;
      state = t.state;
      arrived = t.arrived;
      list = t.list;
      operator = t.operator;
      awaits = awaits;
      holder = holders;
      entries = entries;
      opened = t.opened;
      bound = t.bound;
      length = t.length;
      element = t.element;
      criterion = t.criterion;
      ticks = t.ticks;
      timers = t.timers;
    }

-- what has to be right of them, where the closed regions are free or of task who
pub record Right (t : Table) (who : ℕ) (holders entries line : List ℕ) : Type 0 where
  pub holders_long : length holders ≡ length t.holder
  pub entries_long : length entries ≡ length t.entries
  pub awaits_long : length line ≡ length t.awaits
  pub regions : regions_right t.regions (suc who) t.opened holders ≡ true
  pub counts : entries_everywhere holders entries ≡ true
  pub open_holders : open_holders_fit t.tasks t.state t.opened holders ≡ true
  pub awaits : awaits_fit t.tasks t.state line t.opened holders ≡ true
  pub no_circle : no_circle line holders ≡ true
  -- who holds a closed region waits for none
  pub runs : held (closed_holders t.opened holders) ≡ suc who → get_or line who 0 ≡ 0

module _ (t : Table) (p : Parts t) (who : ℕ) (is : who ≡ t.elected) (one : who ≢ nobody) where
  there : t.elected ≢ nobody
  there = rw is at one

  pub who_ready : ready_at t.state who ≡ true
  who_ready = rw is (elected_ready t p there)

  pub who_below : who < t.tasks
  who_below = rw is (elected_below t p there)

  -- while the elected task calls, every closed region is free or its own
  pub caller_fits : regions_right t.regions (suc who) t.opened t.holder ≡ true
  caller_fits = go (is_zero (held (closed_of t))) refl
    where
      go : (b : Bool) → is_zero (held (closed_of t)) ≡ b → regions_right t.regions (suc who) t.opened t.holder ≡ true
      go true e = refit t.regions t.opened t.holder (held (closed_of t)) (suc who) (eqb-true _ 0 e) p.regions
      go false e =
          let n : held (closed_of t) ≢ 0 = eqb-false _ 0 e in
          let m : who ≡ held (closed_of t) - 1 = is ∙ holder_elected_lem t p (not_intro _ e) in
          let s : suc who ≡ held (closed_of t) = omega arith in
          rw s p.regions

  pub keep_held : (holders entries awaits : List ℕ) → Right t who holders entries awaits → Parts (settled (with_held holders entries awaits t))
  unfolding shaped holder_right
  keep_held holders entries awaits r =
      record {
        shape = rw (r.holders_long, r.entries_long, r.awaits_long) p.shape;
        counts = p.counts;
        tasks = p.tasks;
        regions = own_fits t.regions t.opened holders (suc who) r.regions;
        entries = r.counts;
        holder = ready (held_one t.regions t.opened holders (suc who) r.regions);
        open_holders = r.open_holders;
        awaits = r.awaits;
        no_circle = r.no_circle;
        queues = p.queues;
        criteria = p.criteria;
        elected = refl;
        timers = p.timers;
      }
    where
      v : ℕ
      v = held (closed_holders t.opened holders)

      ready : (v ≡ 0) ⊎ (v ≡ suc who) → holder_right t.tasks (states_of (with_held holders entries awaits t)) v ≡ true
      ready (inl z) = rw z refl
      ready (inr e) =
          let w : suc who - 1 ≡ who = omega arith in
          let below = who_below in
          let free = eq-eqb (get_or awaits who 0) 0 (r.runs e) in
          rw (e, w)
          (or_second (is_zero (suc who)) _
          (both {a = leb (suc who) t.tasks} (le-leb (suc who) t.tasks below)
          (ready_shown awaits t.state (length_states_of t p.shape) who free who_ready)))

-- ---- one region changed

-- what is said of region a is right, where the occupied closed ones are v's and the open ones' holders have these states
pub record RegionRight (t : Table) (v a : ℕ) (r : Region) : Type 0 where
  pub holder : region_fits t.regions v a (get_or t.opened a 0) r.holder ≡ true
  pub entries : entries_fit r.holder r.entries ≡ true
  pub open_holder : open_holder_fits t.tasks t.state (get_or t.opened a 0) r.holder ≡ true

module _ (t : Table) (p : Parts t) (a : ℕ) (l : a < t.regions) (v : ℕ) (r : Region) (right : RegionRight t v a r) where
  pub entries_set : entries_everywhere (set t.holder a r.holder) (set t.entries a r.entries) ≡ true
  unfolding entries_everywhere
  entries_set = below_all _ region_room (λ i k. go i k (eqb i a) refl)
    where
      go : (i : ℕ) → i < region_room → (b : Bool) → eqb i a ≡ b
          → entries_fit (get_or (set t.holder a r.holder) i 0) (get_or (set t.entries a r.entries) i 0) ≡ true
      go i k true e =
          let same = eqb-true i a e in
          let there : a < length t.entries = omega (arith, (regions_long t p.shape).1) in
          rw (same, get_or-set_same t.holder a r.holder 0 (region_there t p a l), get_or-set_same t.entries a r.entries 0 there) right.entries
      go i k false e =
          let n : i ≢ a = eqb-false i a e in
          rw (get_or-set_other t.holder a i r.holder 0 n, get_or-set_other t.entries a i r.entries 0 n) (entries_fit_lem t p i k)

  pub open_holders_set : open_holders_fit t.tasks t.state t.opened (set t.holder a r.holder) ≡ true
  unfolding open_holders_fit
  open_holders_set = below_all _ region_room (λ i k. go i k (eqb i a) refl)
    where
      go : (i : ℕ) → i < region_room → (b : Bool) → eqb i a ≡ b
          → open_holder_fits t.tasks t.state (get_or t.opened i 0) (get_or (set t.holder a r.holder) i 0) ≡ true
      go i k true e = rw (eqb-true i a e, get_or-set_same t.holder a r.holder 0 (region_there t p a l)) right.open_holder
      go i k false e = rw (get_or-set_other t.holder a i r.holder 0 (eqb-false i a e)) (below_at _ region_room i p.open_holders k)
