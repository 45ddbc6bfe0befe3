-- The validity check: what its parts find, one after the other, together is validity.
use Rattle.std.proofs.Common.{◌≡◌, ℕ, Bool, true, false, ◌&&◌, eqb, length, refl, sym, ap, ◌∙◌, true≢false, eq-eqb, eqb-true}
use Rattle.rules.specs.declared.Table.{Table}
use Rattle.rules.specs.Numbers.{task_room, region_room, queue_room, store_size, timer_room}
use Rattle.rules.specs.Words.{all}
use Rattle.rules.specs.Regions.{held}
use Rattle.rules.specs.Circles.{no_circle}
use Rattle.rules.specs.Tables.{states_of, urgencies_of, closed_of}
use Rattle.rules.specs.Validity.{shaped, counts_in_range, criteria_in_range, timers_right, valid}
use Rattle.rules.proofs.Bools.{and_left, and_right, both, same_test}
use Rattle.rules.specs.Election.{elected_by}
use Rattle.rules.proofs.Election.{election_by}
use Rattle.rules.specs.Checks.{tasks_right, regions_right, entries_everywhere, holder_right, open_holders_fit, awaits_fit, queues_right}
use Rattle.rules.proofs.Validity.{parts_of, valid_parts}
use Rattle.regions.specs.Bits.{or_all}
use Rattle.regions.proofs.Bits.{bits_right, held_right}

-- arrays as long as their types say
pub as_long : (t : Table) → length t.priority ≡ task_room → length t.state ≡ task_room → length t.arrived ≡ task_room → length t.list ≡ task_room
    → length t.operator ≡ task_room → length t.awaits ≡ task_room → length t.holder ≡ region_room → length t.entries ≡ region_room
    → length t.opened ≡ region_room → length t.bound ≡ queue_room → length t.length ≡ queue_room → length t.element ≡ store_size
    → length t.criterion ≡ store_size → length t.timers ≡ timer_room → shaped t ≡ true
unfolding shaped all
as_long t priority state arrived list operator awaits holder entries opened bound lengths element criterion timers =
    rw (priority, state, arrived, list, operator, holder, entries, bound, lengths, element, criterion, timers, awaits, opened) refl

module _ (t : Table) where
  -- ---- a way out is a part that fails

  refuted : (b : Bool) → (valid t ≡ true → b ≡ true) → b ≡ false → false ≡ valid t
  refuted b f n = go (valid t) refl
    where
      go : (k : Bool) → valid t ≡ k → false ≡ valid t
      go true e = absurd (true≢false (sym (f e) ∙ n))
      go false e = sym e

  -- the bits of the closed regions' entries are the holder's entry in every table that is valid
  one : {v : ℕ} → v ≡ or_all 0 (closed_of t) → valid t ≡ true → v ≡ held (closed_of t)
  one bits k = bits ∙ held_right t.regions t.opened t.holder (parts_of t k).regions

  module _ {v : ℕ} (bits : v ≡ or_all 0 (closed_of t)) {fit counted : Bool} (fit_is : fit ≡ regions_right t.regions v t.opened t.holder)
      (counted_is : counted ≡ entries_everywhere t.holder t.entries) where
    pub regions_wrong : (fit && counted) ≡ false → false ≡ valid t
    regions_wrong =
        refuted (fit && counted)
        (λ k.
        both (fit_is ∙ ap (λ x. regions_right t.regions x t.opened t.holder) (one bits k) ∙ (parts_of t k).regions)
        (counted_is ∙ (parts_of t k).entries))

  module _ {waiting hold : Bool} (waiting_is : waiting ≡ (awaits_fit t.tasks t.state t.awaits t.opened t.holder && no_circle t.awaits t.holder))
      (hold_is : hold ≡ open_holders_fit t.tasks t.state t.opened t.holder) where
    pub waiting_wrong : (waiting && hold) ≡ false → false ≡ valid t
    waiting_wrong =
        refuted (waiting && hold)
        (λ k. both (waiting_is ∙ both (parts_of t k).awaits (parts_of t k).no_circle) (hold_is ∙ (parts_of t k).open_holders))

  module _ {v : ℕ} (bits : v ≡ or_all 0 (closed_of t)) {who : ℕ} {ready : Bool} (who_is : who ≡ elected_by v (states_of t) (urgencies_of t))
      (ready_is : ready ≡ holder_right t.tasks (states_of t) v) where
    pub elected_wrong : (ready && eqb t.elected who) ≡ false → false ≡ valid t
    elected_wrong =
        refuted (ready && eqb t.elected who)
        (λ k.
        both (ready_is ∙ ap (holder_right t.tasks (states_of t)) (one bits k) ∙ (parts_of t k).holder)
        (rw (who_is, one bits k, election_by) (eq-eqb _ _ (parts_of t k).elected)))

  module _ {counts stores clock : Bool} (counts_is : counts ≡ counts_in_range t.tasks t.regions t.queues)
      (stores_is : stores ≡ queues_right t.queues t.bound t.length t.element t.criterion)
      (clock_is : clock ≡ timers_right t.tasks t.state t.ticks t.timers) where
    pub loops_wrong : (counts && (stores && clock)) ≡ false → false ≡ valid t
    loops_wrong =
        refuted (counts && (stores && clock))
        (λ k. both (counts_is ∙ (parts_of t k).counts) (both (stores_is ∙ (parts_of t k).queues) (clock_is ∙ (parts_of t k).timers)))

  -- ---- and at the end the rest is validity

  module _ (shape : shaped t ≡ true) {v : ℕ} {fit counted waiting hold ready counts stores clock columns criteria : Bool} {who : ℕ} where
    pub check_is : v ≡ or_all 0 (closed_of t) → fit ≡ regions_right t.regions v t.opened t.holder → counted ≡ entries_everywhere t.holder t.entries
        → waiting ≡ (awaits_fit t.tasks t.state t.awaits t.opened t.holder && no_circle t.awaits t.holder)
        → hold ≡ open_holders_fit t.tasks t.state t.opened t.holder
        → who ≡ elected_by v (states_of t) (urgencies_of t) → ready ≡ holder_right t.tasks (states_of t) v
        → counts ≡ counts_in_range t.tasks t.regions t.queues → stores ≡ queues_right t.queues t.bound t.length t.element t.criterion
        → clock ≡ timers_right t.tasks t.state t.ticks t.timers
        → columns ≡ tasks_right t.tasks t.priority t.state t.arrived t.list t.operator → criteria ≡ criteria_in_range t.criterion
        → (fit && counted) ≡ true → (waiting && hold) ≡ true → (ready && eqb t.elected who) ≡ true → (counts && (stores && clock)) ≡ true
        → (columns && criteria) ≡ valid t
    check_is bits fit_is counted_is waiting_is hold_is who_is ready_is counts_is stores_is clock_is columns_is criteria_is regions waits elected loops =
        same_test (columns && criteria) (valid t) passes (λ k. both (columns_is ∙ (parts_of t k).tasks) (criteria_is ∙ (parts_of t k).criteria))
      where
        fits : regions_right t.regions v t.opened t.holder ≡ true
        fits = sym fit_is ∙ and_left fit counted regions

        bits_fit : regions_right t.regions (or_all 0 (closed_of t)) t.opened t.holder ≡ true
        bits_fit = ap (λ x. regions_right t.regions x t.opened t.holder) (sym bits) ∙ fits

        h : v ≡ held (closed_of t)
        h = bits ∙ bits_right t.regions t.opened t.holder bits_fit

        both_wait : (awaits_fit t.tasks t.state t.awaits t.opened t.holder && no_circle t.awaits t.holder) ≡ true
        both_wait = sym waiting_is ∙ and_left waiting hold waits

        behind : (stores && clock) ≡ true
        behind = and_right counts (stores && clock) loops

        passes : (columns && criteria) ≡ true → valid t ≡ true
        passes k =
            valid_parts t
            (record {
              shape = shape;
              counts = sym counts_is ∙ and_left counts (stores && clock) loops;
              tasks = sym columns_is ∙ and_left columns criteria k;
              regions = ap (λ x. regions_right t.regions x t.opened t.holder) (sym h) ∙ fits;
              entries = sym counted_is ∙ and_right fit counted regions;
              holder = ap (holder_right t.tasks (states_of t)) (sym h) ∙ sym ready_is ∙ and_left ready (eqb t.elected who) elected;
              open_holders = sym hold_is ∙ and_right waiting hold waits;
              awaits = and_left _ _ both_wait;
              no_circle = and_right (awaits_fit t.tasks t.state t.awaits t.opened t.holder) _ both_wait;
              queues = sym stores_is ∙ and_left stores clock behind;
              criteria = sym criteria_is ∙ and_right columns criteria k;
              elected = eqb-true t.elected who (and_right ready (eqb t.elected who) elected) ∙ who_is ∙ rw h (election_by _ _ _);
              timers = sym clock_is ∙ and_right stores clock behind;
            })

-- the ways out together
pub ruleset ways_out = (regions_wrong, waiting_wrong, elected_wrong, loops_wrong)
