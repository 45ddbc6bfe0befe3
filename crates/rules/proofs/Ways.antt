-- The way from a task: one step of it, where it stops, and that it ends within as many steps as there are tasks if it ends at all.
use Prim.Native.Nat.{ℕ, zero, suc, ◌+◌, ◌-◌, ◌<◌, ◌≤◌}
use mathlib.Core.Path.{◌≡◌, refl, sym, ap, ◌∙◌}
use mathlib.Core.Logic.{◌≢◌}
use mathlib.Core.Bool.{Bool, true, false, false≢true}
use mathlib.Core.List.{List}
use native.Mathlib.Omega.{arith}
use lib.Dec.{ltb}
use lib.ListN.{get_or, length, get_or-eq_default}
use borrow.Author.Tests.{eqb-true, eq-eqb, ne_eqb, ltb-true, ltb-false}
use Rattle.rules.specs.Numbers.{task_room}
use Rattle.rules.specs.Circles.{onward, ends}
use Rattle.rules.proofs.Pigeons.{Twice, pigeons}

module _ (awaits holder : List ℕ) where
  pub onward_none : (i : ℕ) → get_or awaits i 0 ≡ 0 → onward awaits holder i ≡ 0
  unfolding onward
  onward_none i e = rw e

  pub onward_region : (i r : ℕ) → get_or awaits i 0 ≡ suc r → onward awaits holder i ≡ get_or holder r 0
  unfolding onward
  onward_region i r e = rw e

  pub ends_here : (left i : ℕ) → onward awaits holder i ≡ 0 → ends awaits holder left i ≡ true
  unfolding ends
  ends_here zero i e = eq-eqb (onward awaits holder i) 0 e
  ends_here (suc left) i e = rw (eq-eqb (onward awaits holder i) 0 e)

  pub ends_on : (left i k : ℕ) → onward awaits holder i ≡ suc k → ends awaits holder (suc left) i ≡ ends awaits holder left k
  unfolding ends
  ends_on left i k e = let less : suc k - 1 ≡ k = omega arith in rw (e, ne_eqb (suc k) 0 (λ z. omega arith), less)

  pub ends_stops : (i : ℕ) → ends awaits holder 0 i ≡ true → onward awaits holder i ≡ 0
  unfolding ends
  ends_stops i e = eqb-true (onward awaits holder i) 0 e

  -- ---- a way that ends at all ends within as many steps as there are tasks

  -- where the way is after so many steps
  after : ℕ → ℕ → ℕ
  after zero i = i
  after (suc n) i = after n (onward awaits holder i - 1)

  after_add : (a d i : ℕ) → after (a + d) i ≡ after d (after a i)
  unfolding after
  after_add zero d i = let none : 0 + d ≡ d = omega arith in rw none
  after_add (suc a) d i =
      let moved : suc a + d ≡ suc (a + d) = omega arith in
      ap (λ n. after n i) moved ∙ after_add a d (onward awaits holder i - 1)

  -- it ends where it stops somewhere, and only there
  stops_at : (n i : ℕ) → ends awaits holder n i ≡ true → (m : ℕ) × (onward awaits holder (after m i) ≡ 0)
  unfolding after
  stops_at zero i e = (0, ends_stops i e)
  stops_at (suc n) i e = go (onward awaits holder i) refl (stops_at n)
    where
      go : (o : ℕ) → onward awaits holder i ≡ o → ((k : ℕ) → ends awaits holder n k ≡ true → (m : ℕ) × (onward awaits holder (after m k) ≡ 0))
          → (m : ℕ) × (onward awaits holder (after m i) ≡ 0)
      go zero f ih = (0, f)
      go (suc k) f ih =
          let rest = ih k (sym (ends_on n i k f) ∙ e) in
          let less : onward awaits holder i - 1 ≡ k = omega arith in
          (suc rest.0, rw less rest.1)

  goes_on : (m n i : ℕ) → m ≤ n → ends awaits holder n i ≡ false → onward awaits holder (after m i) ≢ 0
  unfolding after
  goes_on zero n i l e z = false≢true (sym e ∙ ends_here n i z)
  goes_on (suc m) zero i l e z = absurd (omega arith)
  goes_on (suc m) (suc n) i l e z = go (onward awaits holder i) refl (goes_on m n)
    where
      go : (o : ℕ) → onward awaits holder i ≡ o
          → ((k : ℕ) → m ≤ n → ends awaits holder n k ≡ false → onward awaits holder (after m k) ≢ 0) → ⊥
      go zero f ih = false≢true (sym e ∙ ends_here (suc n) i f)
      go (suc k) f ih =
          let less : onward awaits holder i - 1 ≡ k = omega arith in
          ih k (omega arith) (sym (ends_on n i k f) ∙ e) (rw less at z)

  module _ (long : length awaits ≡ task_room) where
    -- who waits is a task
    pub goes_known : (i : ℕ) → onward awaits holder i ≢ 0 → i < task_room
    goes_known i d = go (ltb i task_room) refl
      where
        go : (b : Bool) → ltb i task_room ≡ b → i < task_room
        go true e = ltb-true i task_room e
        go false e =
            let past = ltb-false i task_room e in
            absurd (d (onward_none i (get_or-eq_default awaits 0 (omega arith))))

    -- a way that comes to a task twice never stops
    never : (i : ℕ) (t : Twice task_room (λ m. after m i)) → ((m : ℕ) → m ≤ task_room → onward awaits holder (after m i) ≢ 0)
        → (bound m : ℕ) → m < bound → onward awaits holder (after m i) ≢ 0
    never i t d zero m l = absurd (omega arith)
    never i t d (suc bound) m l = go (ltb m t.second) refl (never i t d bound)
      where
        go : (b : Bool) → ltb m t.second ≡ b → ((k : ℕ) → k < bound → onward awaits holder (after k i) ≢ 0)
            → onward awaits holder (after m i) ≢ 0
        go true e ih = let h = ltb-true m t.second e in let w = t.within in d m (omega arith)
        go false e ih =
            let h = ltb-false m t.second e in
            let before = t.before in
            let rest : ℕ = m - t.second in
            let all : t.second + rest ≡ m = omega arith in
            let back : after m i ≡ after (t.first + rest) i =
            ap (λ n. after n i) (sym all) ∙ after_add t.second rest i ∙ ap (after rest) (sym t.same) ∙ sym (after_add t.first rest i) in
            rw back (ih (t.first + rest) (omega arith))

    pub ends_within : (n i : ℕ) → ends awaits holder n i ≡ true → ends awaits holder task_room i ≡ true
    ends_within n i e = go (ends awaits holder task_room i) refl
      where
        go : (b : Bool) → ends awaits holder task_room i ≡ b → b ≡ true
        go true f = refl
        go false f =
            let stop = stops_at n i e in
            let on : (m : ℕ) → m ≤ task_room → onward awaits holder (after m i) ≢ 0 = λ m l. goes_on m task_room i l f in
            let twice = pigeons task_room (λ m. after m i) (λ m l. goes_known (after m i) (on m l)) in
            absurd (never i twice on (suc stop.0) stop.0 (omega arith) stop.1)
