-- ENTER and EXIT keep a table valid: a region entered, a caller suspended, a region left, a region handed on.
use Prim.Native.Nat.{ℕ, suc, ◌-◌, ◌<◌}
use mathlib.Core.Path.{◌≡◌, refl, sym, ap, ◌∙◌}
use mathlib.Core.Logic.{◌≢◌, ◌⊎◌, inl, inr, ⊎_elim}
use mathlib.Core.Bool.{Bool, true, false, not, ◌&&◌, ◌||◌, true≢false}
use native.Mathlib.Omega.{arith}
use lib.Dec.{eqb, ltb, leb}
use lib.ListN.{get_or, set, length-set, get_or-eq_default}
use lib.Seq.{get_or-set_same, get_or-set_other, set-get_or}
use borrow.Author.Tests.{eqb-true, eqb-false, eq-eqb, ltb-true, ltb-false, lt-ltb, le-leb, not-true, not-false}
use Rattle.rules.specs.declared.Region.{Region}
use Rattle.rules.specs.declared.Table.{Table}
use Rattle.rules.specs.Numbers.{task_room, region_room, priority_end, most_entries, nobody}
use Rattle.rules.specs.Words.{is_zero}
use Rattle.rules.specs.Regions.{held, held_by, held_by_other, entered, exited, handed}
use Rattle.rules.specs.Election.{ready_at, priority_at}
use Rattle.rules.specs.Urgency.{is_open}
use Rattle.rules.specs.Circles.{meets, no_circle}
use Rattle.rules.specs.Tables.{region_of, closed_of, heir_of, with_region, with_awaits, settled}
use Rattle.rules.specs.Validity.{entries_fit}
use Rattle.rules.specs.Refusals.{entries_full}
use Rattle.rules.specs.Effects.{hand_on, hands_on}
use Rattle.rules.specs.Checks.{region_fits, regions_right, open_holder_fits, awaits_fit}
use Rattle.rules.proofs.Bools.{given, and_left, and_right, both, or_cases, or_first, or_second}
use Rattle.rules.proofs.CirclesKept.{enter_keeps, hands_keep, exit_keeps}
use Rattle.rules.proofs.Entries.{entries_most, entries_some, entries_shown}
use Rattle.rules.proofs.Heirs.{Inherits, heir_nobody, heir_inherits}
use Rattle.rules.proofs.Rules.{Parts, counts_fit}
use Rattle.rules.proofs.ValidTasks.{priority_small, elected_free}
use Rattle.rules.proofs.ValidRegions.{mark_fits, holder_fits, open_holder, entries_fit_lem}
use Rattle.theorems.proofs.Lines.{Lined, lined, awaits_shown}
use Rattle.theorems.proofs.Regions.{RegionRight, Right, keep_held, set_fits, lines_long, region_room_lem, region_there, who_ready, who_below, caller_fits, entries_set, open_holders_set}

-- ---- a valid table

module _ (t : Table) (p : Parts t) where
  pub small : (i : ℕ) → i < task_room → priority_at t.priority i < priority_end
  small = priority_small t p.tasks

  -- who waits is a task
  pub awaits_room : (j q : ℕ) → get_or t.awaits j 0 ≡ suc q → j < task_room
  awaits_room j q e = go (ltb j task_room) refl
    where
      go : (b : Bool) → ltb j task_room ≡ b → j < task_room
      go true f = ltb-true j task_room f
      go false f =
          let past = ltb-false j task_room f in
          let none : get_or t.awaits j 0 ≡ 0 = get_or-eq_default t.awaits 0 (rw (lines_long t p.shape) past) in
          absurd (omega arith)

  pub lined_at : (j q : ℕ) → get_or t.awaits j 0 ≡ suc q → Lined t.tasks j (get_or t.state j 0) (get_or t.opened q 0) (get_or t.holder q 0)
  lined_at j q e = lined t p j q (awaits_room j q e) e

  -- nobody waits for a free region, nor for one without an heir
  pub free_unawaited : (a : ℕ) → get_or t.holder a 0 ≡ 0 → (j : ℕ) → get_or t.awaits j 0 ≢ suc a
  free_unawaited a z j e = (lined_at j a e).occupied z

  pub heirless_unawaited : (a : ℕ) → heir_of t a ≡ nobody → (j : ℕ) → get_or t.awaits j 0 ≢ suc a
  heirless_unawaited a none j e =
      let no = (heir_nobody t.priority t.awaits t.opened t.holder small a).0 none j (awaits_room j a e) in
      true≢false (sym (eq-eqb (get_or t.awaits j 0) (suc a) e) ∙ no)

  pub inherits : (a : ℕ) → heir_of t a ≢ nobody → Inherits t.priority t.awaits t.opened t.holder a (heir_of t a)
  inherits a = heir_inherits t.priority t.awaits t.opened t.holder small a

  -- an occupied region is open where no closed one is occupied
  pub open_occupied : (a : ℕ) → a < region_room → held (closed_of t) ≡ 0 → get_or t.holder a 0 ≢ 0 → is_open (get_or t.opened a 0) ≡ true
  open_occupied a k free some =
      let h = get_or t.holder a 0 in
      ⊎_elim (λ z. absurd (some (eqb-true h 0 z)))
      (λ w.
      ⊎_elim (λ o. o) (λ e. absurd (some (eqb-true h (held (closed_of t)) e ∙ free)))
      (or_cases (is_open (get_or t.opened a 0)) _ (and_right (ltb a t.regions) _ w)))
      (or_cases (is_zero h) _ (holder_fits t p a k))

module _ (t : Table) (p : Parts t) (who : ℕ) (is : who ≡ t.elected) (one : who ≢ nobody) (a : ℕ) (l : a < t.regions) where
  room : a < region_room
  room = region_room_lem t p a l

  counted : entries_fit (get_or t.holder a 0) (get_or t.entries a 0) ≡ true
  counted = entries_fit_lem t p a room

  who_free : get_or t.awaits who 0 ≡ 0
  who_free = let some : t.elected ≢ nobody = rw is at one in rw is (elected_free t p some)

  -- one entry that fits
  one_fits : (v : ℕ) → region_fits t.regions (suc who) a (get_or t.opened a 0) v ≡ true → regions_right t.regions (suc who) t.opened (set t.holder a v) ≡ true
  one_fits v fits = set_fits t.regions t.opened t.holder (suc who) (caller_fits t p who is one) a v (region_there t p a l) fits

  -- ---- a region that changes hands where nobody waits for it, or only its count

  module _ (r : Region) (right : RegionRight t (suc who) a r)
      (quiet : (r.holder ≡ get_or t.holder a 0) ⊎ ((j : ℕ) → get_or t.awaits j 0 ≢ suc a)) where
    line_right : (awaits_fit t.tasks t.state t.awaits t.opened (set t.holder a r.holder) ≡ true)
        × (no_circle t.awaits (set t.holder a r.holder) ≡ true)
    line_right = ⊎_elim same moved quiet
      where
        same : r.holder ≡ get_or t.holder a 0
            → (awaits_fit t.tasks t.state t.awaits t.opened (set t.holder a r.holder) ≡ true)
            × (no_circle t.awaits (set t.holder a r.holder) ≡ true)
        same e = rw (e, set-get_or t.holder a 0) (p.awaits, p.no_circle)

        moved : ((j : ℕ) → get_or t.awaits j 0 ≢ suc a)
            → (awaits_fit t.tasks t.state t.awaits t.opened (set t.holder a r.holder) ≡ true)
            × (no_circle t.awaits (set t.holder a r.holder) ≡ true)
        moved none = (
          awaits_shown t.tasks t.state t.awaits t.opened (set t.holder a r.holder)
              (λ j q k e. rw (get_or-set_other t.holder a q r.holder 0 (λ d. none j (e ∙ ap suc d))) (lined t p j q k e)),
          hands_keep t.awaits t.holder (lines_long t p.shape) p.no_circle a r.holder none,
        )

    pub keep_region : Parts (settled (with_region a r t))
    keep_region =
        keep_held t p who is one (set t.holder a r.holder) (set t.entries a r.entries) t.awaits
        (record {
          holders_long = length-set t.holder a r.holder;
          entries_long = length-set t.entries a r.entries;
          awaits_long = refl;
          regions = one_fits r.holder right.holder;
          counts = entries_set t p a l (suc who) r right;
          open_holders = open_holders_set t p a l (suc who) r right;
          awaits = line_right.0;
          no_circle = line_right.1;
          runs = λ e. who_free;
        })

  -- the entry of the caller, and none
  own_fits : region_fits t.regions (suc who) a (get_or t.opened a 0) (suc who) ≡ true
  unfolding region_fits
  own_fits =
      both (mark_fits t p a room)
      (or_second (is_zero (suc who)) _ (both {a = ltb a t.regions} (lt-ltb a t.regions l) (or_second (is_open (get_or t.opened a 0)) _ (eq-eqb (suc who) (suc who) refl))))

  none_fits_lem : region_fits t.regions (suc who) a (get_or t.opened a 0) 0 ≡ true
  unfolding region_fits
  none_fits_lem = both {a = is_zero (get_or t.opened a 0) || (ltb a t.regions && is_open (get_or t.opened a 0))} (mark_fits t p a room) refl

  -- a task that is stored as ready may hold an open region
  ready_fits : (x : ℕ) → x < t.tasks → ready_at t.state x ≡ true → open_holder_fits t.tasks t.state (get_or t.opened a 0) (suc x) ≡ true
  unfolding open_holder_fits
  ready_fits x below ready =
      let less : suc x - 1 ≡ x = omega arith in
      or_second (not (is_open (get_or t.opened a 0))) _
      (or_second (is_zero (suc x)) _ (both {a = leb (suc x) t.tasks} (le-leb (suc x) t.tasks below) (rw less ready)))

  free_fits : open_holder_fits t.tasks t.state (get_or t.opened a 0) 0 ≡ true
  unfolding open_holder_fits
  free_fits = or_second (not (is_open (get_or t.opened a 0))) _ refl

  -- ---- ENTER

  pub enter_holders : regions_right t.regions (suc who) t.opened (set t.holder a (suc who)) ≡ true
  enter_holders = one_fits (suc who) own_fits

  pub keep_enter : held_by_other who (region_of t a) ≡ false → entries_full (region_of t a) who ≡ false
      → Parts (settled (with_region a (entered who (region_of t a)) t))
  keep_enter own full = go (is_zero (get_or t.holder a 0)) refl (held_by who (region_of t a)) refl
    where
      enters : get_or t.entries a 0 ≢ most_entries
          → (suc who ≡ get_or t.holder a 0) ⊎ ((j : ℕ) → get_or t.awaits j 0 ≢ suc a)
          → Parts (settled (with_region a (entered who (region_of t a)) t))
      enters more quiet =
          keep_region (entered who (region_of t a))
          (record {
            holder = own_fits;
            entries = entries_shown (suc who) (suc (get_or t.entries a 0)) (λ z. omega arith) (omega arith) (omega (arith, entries_most (get_or t.holder a 0) (get_or t.entries a 0) counted));
            open_holder = ready_fits who (who_below t p who is one) (who_ready t p who is one);
          })
          quiet

      go : (b : Bool) → is_zero (get_or t.holder a 0) ≡ b → (c : Bool) → held_by who (region_of t a) ≡ c
          → Parts (settled (with_region a (entered who (region_of t a)) t))
      go true e c f =
          let none : get_or t.entries a 0 ≡ 0 = eqb-true _ 0 (rw e at counted) in
          enters (omega arith) (inr (free_unawaited t p a (eqb-true _ 0 e)))
      go false e true f = enters (eqb-false _ _ (rw f at full)) (inl (sym (eqb-true _ (suc who) f)))
      go false e false f = absurd (true≢false (rw (e, f) at own))

  -- "held by another task suspends the caller": an open one, since no closed one is occupied, and the way from its holder doesn't come to the caller
  pub keep_suspend : held_by_other who (region_of t a) ≡ true → held (closed_of t) ≡ 0
      → meets t.awaits t.holder task_room who (get_or t.holder a 0 - 1) ≡ false → Parts (settled (with_awaits who (suc a) t))
  keep_suspend other free apart =
      keep_held t p who is one t.holder t.entries (set t.awaits who (suc a))
      (record {
        holders_long = refl;
        entries_long = refl;
        awaits_long = length-set t.awaits who (suc a);
        regions = caller_fits t p who is one;
        counts = p.entries;
        open_holders = p.open_holders;
        awaits = awaits_shown t.tasks t.state (set t.awaits who (suc a)) t.opened t.holder (λ j q k e. go j q k e (eqb j who) refl);
        no_circle = enter_keeps t.awaits t.holder (lines_long t p.shape) p.no_circle who a (get_or t.holder a 0 - 1) who_room (omega (arith, some)) apart;
        runs = λ e. absurd (omega (arith, e, free));
      })
    where
      some : get_or t.holder a 0 ≢ 0
      some = eqb-false _ 0 (not-true _ (and_left _ _ other))

      who_room : who < task_room
      who_room = let below = who_below t p who is one in omega (arith, (counts_fit _ _ _ p.counts).0)

      go : (j q : ℕ) → j < task_room → get_or (set t.awaits who (suc a)) j 0 ≡ suc q → (b : Bool) → eqb j who ≡ b
          → Lined t.tasks j (get_or t.state j 0) (get_or t.opened q 0) (get_or t.holder q 0)
      go j q k e true f =
          let same = eqb-true j who f in
          let now : suc a ≡ suc q = sym (get_or-set_same t.awaits who (suc a) 0 (rw (lines_long t p.shape) who_room)) ∙ rw same at e in
          let is-a : q ≡ a = omega arith in
          rw (same, is-a)
          (record {
            task = who_below t p who is one;
            is_ready = who_ready t p who is one;
            is_open = open_occupied t p a room free some;
            occupied = some;
            others = eqb-false _ (suc who) (not-true _ (and_right (not (is_zero (get_or t.holder a 0))) _ other));
          })
      go j q k e false f = lined t p j q k (sym (get_or-set_other t.awaits who j (suc a) 0 (eqb-false j who f)) ∙ e)

  -- ---- EXIT

  module _ (own : held_by who (region_of t a) ≡ true) where
    mine : get_or t.holder a 0 ≡ suc who
    mine = eqb-true _ (suc who) own

    some_entries : 0 < get_or t.entries a 0
    some_entries = entries_some (get_or t.holder a 0) (get_or t.entries a 0) counted (omega (arith, mine))

    pub keep_exit : hands_on a t ≡ false → Parts (settled (with_region a (exited (region_of t a)) t))
    keep_exit none = go (eqb (get_or t.entries a 0) 1) refl
      where
        go : (b : Bool) → eqb (get_or t.entries a 0) 1 ≡ b → Parts (settled (with_region a (exited (region_of t a)) t))
        go true e =
            let last : get_or t.entries a 0 - 1 ≡ 0 = omega (arith, eqb-true (get_or t.entries a 0) 1 e) in
            let nobody-waits = heirless_unawaited t p a (eqb-true _ nobody (not-false (eqb (heir_of t a) nobody) (rw e at none))) in
            keep_region (exited (region_of t a)) (rw (e, last) (record { holder = none_fits_lem; entries = refl; open_holder = free_fits })) (inr nobody-waits)
        go false e =
            let more : get_or t.entries a 0 ≢ 1 = eqb-false _ 1 e in
            let least = some_entries in
            keep_region (exited (region_of t a))
            (rw (e, mine)
            (record {
              holder = own_fits;
              entries = entries_shown (suc who) (get_or t.entries a 0 - 1) (λ z. omega arith) (omega arith) (omega (arith, entries_most (get_or t.holder a 0) (get_or t.entries a 0) counted));
              open_holder = ready_fits who (who_below t p who is one) (who_ready t p who is one);
            }))
            (inl (rw e refl))

    pub exit_holders : regions_right t.regions (suc who) t.opened (set t.holder a (exited (region_of t a)).holder) ≡ true
    exit_holders = one_fits (exited (region_of t a)).holder (go (eqb (get_or t.entries a 0) 1) refl)
      where
        go : (b : Bool) → eqb (get_or t.entries a 0) 1 ≡ b → region_fits t.regions (suc who) a (get_or t.opened a 0) (exited (region_of t a)).holder ≡ true
        go true e = rw e none_fits_lem
        go false e = rw (e, mine) own_fits

  -- ---- EXIT of a region that somebody waits for: the heir waited for it, and now the others wait for the heir

  module _ (hands : hands_on a t ≡ true) where
    pub heir : Inherits t.priority t.awaits t.opened t.holder a (heir_of t a)
    heir = inherits t p a (eqb-false _ nobody (not-true _ (and_right (eqb (get_or t.entries a 0) 1) _ hands)))

    pub heir_waited : get_or t.awaits (heir_of t a) 0 ≡ suc a
    heir_waited = eqb-true _ (suc a) heir.waited

    pub heir_lined : Lined t.tasks (heir_of t a) (get_or t.state (heir_of t a) 0) (get_or t.opened a 0) (get_or t.holder a 0)
    heir_lined = lined_at t p (heir_of t a) a heir_waited

    pub heir_freed : get_or (set t.awaits (heir_of t a) 0) (heir_of t a) 0 ≡ 0
    heir_freed = get_or-set_same t.awaits (heir_of t a) 0 0 (rw (lines_long t p.shape) heir.known)

    heir_fits : region_fits t.regions (suc who) a (get_or t.opened a 0) (suc (heir_of t a)) ≡ true
    unfolding region_fits
    heir_fits =
        both (mark_fits t p a room)
        (or_second (is_zero (suc (heir_of t a))) _
        (both {a = ltb a t.regions} (lt-ltb a t.regions l) (or_first (is_open (get_or t.opened a 0)) _ heir_lined.is_open)))

    pub hand_holders : regions_right t.regions (suc who) t.opened (set t.holder a (suc (heir_of t a))) ≡ true
    hand_holders = one_fits (suc (heir_of t a)) heir_fits

    pub keep_hand : Parts (settled (hand_on a t))
    keep_hand = keep_held t p who is one (set t.holder a (suc x)) (set t.entries a 1) (set t.awaits x 0) given_on
      where
        x : ℕ
        x = heir_of t a

        right : RegionRight t (suc who) a (handed x)
        right =
            record {
              holder = heir_fits;
              entries = entries_shown (suc x) 1 (λ z. omega arith) (omega arith) (omega arith);
              open_holder = ready_fits x heir_lined.task heir_lined.is_ready;
            }

        waits : (j q : ℕ) → j < task_room → get_or (set t.awaits x 0) j 0 ≡ suc q → (b c : Bool) → eqb j x ≡ b → eqb q a ≡ c
            → Lined t.tasks j (get_or t.state j 0) (get_or t.opened q 0) (get_or (set t.holder a (suc x)) q 0)
        waits j q k e true c f g =
            let still : get_or (set t.awaits x 0) x 0 ≡ suc q = rw (eqb-true j x f) at e in
            absurd (omega (arith, heir_freed))
        waits j q k e false true f g =
            let other : j ≢ x = eqb-false j x f in
            let same : q ≡ a = eqb-true q a g in
            let before = lined t p j q k (sym (get_or-set_other t.awaits x j 0 0 other) ∙ e) in
            rw (same, get_or-set_same t.holder a (suc x) 0 (region_there t p a l))
            (record {
              task = before.task;
              is_ready = before.is_ready;
              is_open = rw same at before.is_open;
              occupied = λ z. omega arith;
              others = λ z. other (omega arith);
            })
        waits j q k e false false f g =
            rw (get_or-set_other t.holder a q (suc x) 0 (eqb-false q a g))
            (lined t p j q k (sym (get_or-set_other t.awaits x j 0 0 (eqb-false j x f)) ∙ e))

        runs_on : (b : Bool) → eqb who x ≡ b → get_or (set t.awaits x 0) who 0 ≡ 0
        runs_on true e = rw (eqb-true who x e) heir_freed
        runs_on false e = get_or-set_other t.awaits x who 0 0 (eqb-false who x e) ∙ who_free

        given_on : Right t who (set t.holder a (suc x)) (set t.entries a 1) (set t.awaits x 0)
        given_on =
            record {
              holders_long = length-set t.holder a (suc x);
              entries_long = length-set t.entries a 1;
              awaits_long = length-set t.awaits x 0;
              regions = hand_holders;
              counts = entries_set t p a l (suc who) (handed x) right;
              open_holders = open_holders_set t p a l (suc who) (handed x) right;
              awaits = awaits_shown t.tasks t.state (set t.awaits x 0) t.opened (set t.holder a (suc x)) (λ j q k e. waits j q k e (eqb j x) (eqb q a) refl refl);
              no_circle = exit_keeps t.awaits t.holder (lines_long t p.shape) p.no_circle x a (region_there t p a l);
              runs = λ e. runs_on (eqb who x) refl;
            }
