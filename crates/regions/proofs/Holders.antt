-- Laws of who holds: the scan for the first occupied region, and the holder behind an entry.
use Rattle.std.proofs.Common.{◌≡◌, ℕ, ◌-◌, ◌<◌, ◌≤◌, Bool, true, false, not, ◌&&◌, ◌||◌, ◌≢◌, zero, suc, cond, List, [], ◌∷◌, map, length, get_or, Option, None, Some, sym, refl, ◌∙◌, ⊎_elim, arith, eq-eqb, ne_eqb, le-leb}
use Rattle.std.specs.List.{AllWithin, HoldsAt, zip}
use Rattle.std.specs.Option.{MatchOption, unwrap_or}
use Rattle.rules.specs.Numbers.{region_room}
use Rattle.rules.proofs.Columns.{column_is}
use Rattle.rules.proofs.Folds.{zip_at, zip_length}
use lib.ListN.{get_or-eq_default, length-map}
use Rattle.std.proofs.lemmas.List.{get_or-map}
use borrow.Author.Tests.{eqb-false, lt-leb}
use Rattle.rules.specs.Words.{is_zero}
use Rattle.rules.specs.Regions.{held}
use Rattle.rules.specs.Election.{ready_at}
use Rattle.rules.specs.Urgency.{is_open, closed_holders}
use Rattle.rules.specs.Checks.{holder_right, open_holder_fits}
use Rattle.rules.proofs.Bools.{or_left, or_right, or_second, or_cases}

-- ---- the first occupied one

none_held : (hs : List ℕ) → AllWithin (λ h. h ≡ 0) hs 0 (length hs) → 0 ≡ held hs
unfolding held
none_held [] a = refl
none_held (h ∷ hs) a = rw (a 0 0 (omega arith) (omega arith)) (none_held hs (λ k d l m. a (suc k) d (omega arith) (omega arith)))

some_held : (hs : List ℕ) (i x : ℕ) → (x ≡ 0 → ⊥) → i < length hs → HoldsAt (λ h. h ≡ x) hs i → AllWithin (λ h. h ≡ 0) hs 0 i → x ≡ held hs
unfolding held
some_held [] i x n l e a = absurd (omega arith)
some_held (h ∷ hs) zero x n l e a = let same : h ≡ x = e 0 in rw (same, ne_eqb x 0 n) refl
some_held (h ∷ hs) (suc i) x n l e a =
    rw (a 0 0 (omega arith) (omega arith)) (some_held hs i x n (omega arith) e (λ k d m o. a (suc k) d (omega arith) (omega arith)))

-- as `find` gives it
pub held_found : (hs : List ℕ) (r : Option ℕ) → MatchOption r (AllWithin (λ h. h ≡ 0) hs 0 (length hs))
    (λ x. (x ≡ 0 → ⊥) × (i : ℕ) × (i < length hs) × HoldsAt (λ h. h ≡ x) hs i × AllWithin (λ h. h ≡ 0) hs 0 i)
    → unwrap_or r 0 ≡ held hs
held_found hs None h = none_held hs h
held_found hs (Some x) (n, i, l, e, a) = some_held hs i x n l e a

-- the closed ones' entries, side by side with the marks
pub closed_pairs : (opened holder : List ℕ) → length opened ≡ region_room → length holder ≡ region_room
    → map (λ (z : ℕ × ℕ). cond (is_open z.0) 0 z.1) (zip opened holder) ≡ closed_holders opened holder
unfolding closed_holders
closed_pairs opened holder l m =
    let pairs = zip_length 0 0 region_room opened holder l m in
    let long : length (map (λ (z : ℕ × ℕ). cond (is_open z.0) 0 z.1) (zip opened holder)) ≡ region_room = rw length-map pairs in
    sym (column_is region_room (λ r. cond (is_open (get_or opened r 0)) 0 (get_or holder r 0)) _ long (λ i k. sym (pair_at i k)))
  where
    pair_at : (i : ℕ) → i < region_room → get_or (map (λ (z : ℕ × ℕ). cond (is_open z.0) 0 z.1) (zip opened holder)) i 0 ≡ cond (is_open (get_or opened i 0)) 0 (get_or holder i 0)
    pair_at i k =
        let long = zip_length 0 0 region_room opened holder l m in
        get_or-map (λ (z : ℕ × ℕ). cond (is_open z.0) 0 z.1) (zip opened holder) i (0, 0) 0 (omega arith)
        ∙ rw (zip_at 0 0 opened holder i (omega arith) (omega arith)) refl

-- ---- the holder behind an entry: none; past the count; a task; past all tasks

module _ (tasks : ℕ) (states : List ℕ) (v : ℕ) where
  pub no_holder : v ≡ 0 → true ≡ holder_right tasks states v
  unfolding holder_right
  no_holder e = rw (eq-eqb v 0 e)

  pub holder_past : (v ≡ 0 → ⊥) → tasks < v → false ≡ holder_right tasks states v
  unfolding holder_right
  holder_past n h = rw (ne_eqb v 0 n, lt-leb v tasks h)

  pub holder_is : (v ≡ 0 → ⊥) → v ≤ tasks → {r : Bool} → r ≡ ready_at states (v - 1) → r ≡ holder_right tasks states v
  unfolding holder_right
  holder_is n h e = rw (ne_eqb v 0 n, le-leb v tasks h) e

-- ---- the holder of an open region: not open or free; past the count; a task; past all tasks

module _ (tasks : ℕ) (states : List ℕ) (mark h : ℕ) where
  pub open_none : (not (is_open mark) || is_zero h) ≡ true → true ≡ open_holder_fits tasks states mark h
  unfolding open_holder_fits
  open_none e =
      ⊎_elim (λ o. rw o refl) (λ z. rw z (sym (or_second (not (is_open mark)) true refl))) (or_cases (not (is_open mark)) (is_zero h) e)

  module _ (e : (not (is_open mark) || is_zero h) ≡ false) where
    is_open_lem : not (is_open mark) ≡ false
    is_open_lem = or_left (not (is_open mark)) (is_zero h) e

    is_held : is_zero h ≡ false
    is_held = or_right (not (is_open mark)) (is_zero h) e

    pub open_held : h ≢ 0
    open_held = eqb-false h 0 is_held

    pub open_past : tasks < h → false ≡ open_holder_fits tasks states mark h
    unfolding open_holder_fits
    open_past l = rw (is_open_lem, is_held, lt-leb h tasks l)

    pub open_is : h ≤ tasks → {r : Bool} → r ≡ ready_at states (h - 1) → r ≡ open_holder_fits tasks states mark h
    unfolding open_holder_fits
    open_is l f = rw (is_open_lem, is_held, le-leb h tasks l) f

-- a task past all is not ready
pub unready : (states : List ℕ) (i : ℕ) → length states ≤ i → false ≡ ready_at states i
unready states i l = rw (get_or-eq_default states 0 l)

-- one region more that is asked
pub one_more : (none holds : Bool) → (not none || holds) ≡ not (none && not holds)
one_more true true = refl
one_more true false = refl
one_more false holds = refl
