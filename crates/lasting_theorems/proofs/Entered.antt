-- An ENTER that enters counts its region up and an EXIT counts it down, which holds it and so has an entry; one that hands on counts down and up.
use Prim.Native.Nat.{ℕ, suc, ◌+◌, ◌<◌}
use mathlib.Core.Path.{◌≡◌, refl, sym, ap, ◌∙◌}
use mathlib.Core.Bool.{Bool, true, false, cond, ◌&&◌}
use mathlib.Core.List.{[], ◌∷◌}
use native.Mathlib.Omega.{arith}
use lib.Dec.{eqb}
use lib.ListN.{get_or}
use borrow.Author.Tests.{eqb-true, eqb-false, ne_eqb, not-true, not-false}
use Rattle.rules.specs.declared.Region.{Region}
use Rattle.rules.specs.declared.Table.{Table}
use Rattle.rules.specs.declared.Call.{Call}
use Rattle.rules.specs.Numbers.{region_room, nobody, ENTER, EXIT}
use Rattle.rules.specs.Words.{is_zero}
use Rattle.rules.specs.Regions.{held_by, held_by_other, entered, exited, handed}
use Rattle.rules.specs.Tables.{region_of, heir_of, with_region}
use Rattle.rules.specs.Validity.{valid}
use Rattle.rules.specs.Refusals.{absent, missing, refusal}
use Rattle.rules.specs.Effects.{Effect, plain, suspend, hand_on, hands_on, effect}
use Rattle.rules.specs.Step.{step}
use Rattle.rules.proofs.Bools.{and_left, and_right}
use Rattle.rules.proofs.Entries.{entries_some, region_same, region_other}
use Rattle.rules.proofs.Effects.{regions_kept}
use Rattle.rules.proofs.Refusals.{Accepted, accepted_facts}
use Rattle.rules.proofs.Rules.{Parts, counts_fit}
use Rattle.rules.proofs.ValidRegions.{entries_fit_lem}
use Rattle.rules.proofs.Validity.{parts_of}
use Rattle.theorems.proofs.Entering.{inherits, lined_at}
use Rattle.theorems.proofs.Kept.{there, valid_kept}
use Rattle.lasting_theorems.specs.Entered.{done_at, hands_at, ExitsEntered}

-- what two regions that are the same have
count : {x y : Region} → x ≡ y → x.entries ≡ y.entries
count e = ap (λ z. z.entries) e

who : {x y : Region} → x ≡ y → x.holder ≡ y.holder
who e = ap (λ z. z.holder) e

module _ (t : Table) (v : valid t ≡ true) (c : Call) (r : ℕ) where
  p : Parts t
  p = parts_of t v

  -- a region that exists has a place
  has_place : absent t.regions c.a ≡ false → c.a < region_room
  has_place h = let l = there t.regions c.a h in omega (arith, (counts_fit _ _ _ p.counts).1)

  -- what an effect does to the count, by which of the two operations it is
  abbrev Counted : Effect → Bool → Bool → Type 0
  Counted e enters exits =
      (region_of t r).entries
      + (cond (enters && (eqb c.a r && is_zero e.status)) 1 0
      + cond ((exits && (eqb c.a r && is_zero e.status)) && held_by_other c.caller (region_of e.table r)) 1 0)
      ≡ cond (exits && (eqb c.a r && is_zero e.status)) 1 0 + (region_of e.table r).entries

  module _ (l : c.a < region_room) where
    abbrev region : Region
    region = region_of t c.a

    -- the changed region, which is r or another
    here : (x : Region) → eqb c.a r ≡ true → region_of (with_region c.a x t) r ≡ x
    here x e = rw (← eqb-true c.a r e) (region_same c.a x t p.shape l)

    elsewhere : (x : Region) → eqb c.a r ≡ false → region_of (with_region c.a x t) r ≡ region_of t r
    elsewhere x e = region_other c.a x t r (λ k. eqb-false _ _ e (sym k))

    suspend_counts : Counted (suspend t c) true false
    suspend_counts = go (eqb c.a r) refl
      where
        go : (b : Bool) → eqb c.a r ≡ b → Counted (suspend t c) true false
        go true e = rw e (omega arith)
        go false e = rw e (omega arith)

    enter_counts : Counted (plain (with_region c.a (entered c.caller region) t)) true false
    enter_counts = go (eqb c.a r) refl
      where
        go : (b : Bool) → eqb c.a r ≡ b → Counted (plain (with_region c.a (entered c.caller region) t)) true false
        go true e = rw (e, count (here (entered c.caller region) e), eqb-true c.a r e) (omega arith)
        go false e = rw (e, count (elsewhere (entered c.caller region) e)) (omega arith)

    module _ (own : held_by c.caller region ≡ true) where
      -- a region that has a holder has an entry
      some_entry : 0 < region.entries
      some_entry =
          let holder = eqb-true region.holder (suc c.caller) own in
          entries_some region.holder region.entries (entries_fit_lem t p c.a l) (omega arith)

      -- behind any other EXIT the region is free or the caller's still
      not_others : held_by_other c.caller (exited region) ≡ false
      not_others = go (eqb region.entries 1) refl
        where
          go : (b : Bool) → eqb region.entries 1 ≡ b → held_by_other c.caller (exited region) ≡ false
          go true e = rw e refl
          go false e = rw (e, own, ne_eqb region.holder 0 (λ z. let its = eqb-true region.holder (suc c.caller) own in absurd (omega arith))) refl

      exit_counts : Counted (plain (with_region c.a (exited region) t)) false true
      exit_counts = go (eqb c.a r) refl
        where
          go : (b : Bool) → eqb c.a r ≡ b → Counted (plain (with_region c.a (exited region) t)) false true
          go true e =
              let some = some_entry in
              rw (e, who (here (exited region) e), count (here (exited region) e), not_others, ← eqb-true c.a r e) (omega arith)
          go false e = rw (e, count (elsewhere (exited region) e)) (omega arith)

      hand_counts : hands_on c.a t ≡ true → Counted (plain (hand_on c.a t)) false true
      hand_counts hands = go (eqb c.a r) refl
        where
          x : ℕ
          x = heir_of t c.a

          one : region.entries ≡ 1
          one = eqb-true _ 1 (and_left _ _ hands)

          -- who waited for it isn't who held it
          others : held_by_other c.caller (handed x) ≡ true
          others =
              let heir = inherits t p c.a (eqb-false _ nobody (not-true _ (and_right (eqb region.entries 1) _ hands))) in
              let other = (lined_at t p x c.a (eqb-true _ (suc c.a) heir.waited)).others in
              let its = eqb-true region.holder (suc c.caller) own in
              rw (ne_eqb (suc x) 0 (λ z. omega arith), ne_eqb (suc x) (suc c.caller) (λ z. other (its ∙ sym z))) refl

          go : (b : Bool) → eqb c.a r ≡ b → Counted (plain (hand_on c.a t)) false true
          go true e = rw (e, who (here (handed x) e), count (here (handed x) e), others, ← eqb-true c.a r e, one) (omega arith)
          go false e = rw (e, count (elsewhere (handed x) e)) (omega arith)

  counted : Accepted t c → Counted (effect t c) (eqb c.operation ENTER) (eqb c.operation EXIT)
  unfolding missing effect
  counted o = go (eqb c.operation ENTER) (eqb c.operation EXIT) refl refl
    where
      enters : c.a < region_room → (b : Bool)
          → Counted (cond b (suspend t c) (plain (with_region c.a (entered c.caller (region_of t c.a)) t))) true false
      enters l true = suspend_counts l
      enters l false = enter_counts l

      exits : c.a < region_room → held_by c.caller (region_of t c.a) ≡ true → (b : Bool) → hands_on c.a t ≡ b
          → Counted (cond b (plain (hand_on c.a t)) (plain (with_region c.a (exited (region_of t c.a)) t))) false true
      exits l own true hands = hand_counts l own hands
      exits l own false hands = exit_counts l own

      go : (b d : Bool) → eqb c.operation ENTER ≡ b → eqb c.operation EXIT ≡ d
          → Counted (effect t c) (eqb c.operation ENTER) (eqb c.operation EXIT)
      go true d e f =
          let is = eqb-true c.operation ENTER e in
          rw is (enters (has_place (rw is at o.nothing_missing)) (held_by_other c.caller (region_of t c.a)))
      go false true e f =
          let is = eqb-true c.operation EXIT f in
          rw is (exits (has_place (rw is at o.nothing_missing)) (not-false _ (rw is at o.may_exit)) (hands_on c.a t) refl)
      go false false e f = rw (e, f, ap (λ h. get_or h.entries r 0) (regions_kept t c (rw (e, f) refl))) (omega arith)

  step_counts : (region_of t r).entries + (cond (done_at ENTER r t c) 1 0 + cond (hands_at r t c) 1 0)
      ≡ cond (done_at EXIT r t c) 1 0 + (region_of (step t c).table r).entries
  unfolding step
  step_counts = go (is_zero (refusal t c)) refl
    where
      none : (b : Bool) → (b && false) ≡ false
      none true = refl
      none false = refl

      go : (b : Bool) → is_zero (refusal t c) ≡ b
          → (region_of t r).entries + (cond (done_at ENTER r t c) 1 0 + cond (hands_at r t c) 1 0)
          ≡ cond (done_at EXIT r t c) 1 0 + (region_of (step t c).table r).entries
      go true z = rw z (counted (accepted_facts t c (eqb-true _ 0 z)))
      go false z = simp (z, none) (omega arith)

pub exits_entered : ExitsEntered
exits_entered t [] r v = omega arith
exits_entered t (c ∷ cs) r v =
    let now = step_counts t v c r in
    let later = exits_entered (step t c).table cs r (valid_kept t c v) in
    omega arith
