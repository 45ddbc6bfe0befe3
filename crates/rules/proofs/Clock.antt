-- Laws of the tick counter: over its end too, a date comes one tick nearer at a time, and the last reaches it.
use Prim.Native.Nat.{ℕ, suc, ◌<◌}
use mathlib.Core.Path.{◌≡◌, refl}
use mathlib.Core.Bool.{Bool, true, false}
use native.Mathlib.Omega.{arith}
use lib.Dec.{eqb}
use borrow.Author.Tests.{eqb-true, eqb-false, eq-eqb, ne_eqb}
use Rattle.rules.specs.Numbers.{tick_end}
use Rattle.rules.specs.Timers.{later, ahead}

pub later_fits : (n d : ℕ) → later n d < tick_end
unfolding later
later_fits n d = omega arith

-- a date so many ticks on lies so many ticks ahead, wherever the counter stands
pub ahead_later : (n d : ℕ) → n < tick_end → d < tick_end → ahead (later n d) n ≡ d
unfolding later ahead
ahead_later n d h k = omega arith

-- each tick brings it one nearer
pub ahead_next : (date n : ℕ) → n < tick_end → 0 < ahead date n → suc (ahead date (later n 1)) ≡ ahead date n
unfolding later ahead
ahead_next date n h k = omega arith

-- and the counter reaches it by the tick that it lies one ahead
pub reached : (date n : ℕ) → date < tick_end → n < tick_end → eqb date (later n 1) ≡ eqb (ahead date n) 1
unfolding later ahead
reached date n h k = go (eqb (ahead date n) 1) refl
  where
    go : (b : Bool) → eqb (ahead date n) 1 ≡ b → eqb date (later n 1) ≡ eqb (ahead date n) 1
    go true e = let one = eqb-true (ahead date n) 1 e in rw e (eq-eqb date (later n 1) (omega arith))
    go false e =
        let not-one : ahead date n ≡ 1 → ⊥ = eqb-false (ahead date n) 1 e in
        rw e (ne_eqb date (later n 1) (λ s. not-one (omega arith)))
