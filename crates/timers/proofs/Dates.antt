-- A timer's date: the machine's difference, which wraps, is how far it lies ahead, and it is due where no tick is left.
use Rattle.std.proofs.Common.{◌≡◌, ℕ, ◌+◌, ◌%◌, ◌<◌, ◌&&◌, eqb, ap, arith, eq-eqb, eqb-true}
use Rattle.rules.specs.declared.Timer.{Timer}
use Rattle.rules.specs.Numbers.{tick_end}
use Rattle.rules.specs.Words.{is_zero}
use Rattle.rules.specs.Timers.{ahead, is_armed, is_due}
use Rattle.rules.proofs.Bools.{same_test}

pub ahead_is : (r date ticks : ℕ) → (r + ticks) % tick_end ≡ date → r < tick_end → ticks < tick_end → r ≡ ahead date ticks
unfolding ahead
ahead_is r date ticks e h k = omega arith

-- no tick is left exactly where the counter has reached the date
pub due_is : (ticks left : ℕ) (r : Timer) → left ≡ ahead r.date ticks → r.date < tick_end → ticks < tick_end
    → (is_armed r && is_zero left) ≡ is_due ticks r
unfolding ahead
due_is ticks left r e h k =
    ap (λ b. is_armed r && b)
    (same_test (is_zero left) (eqb r.date ticks)
    (λ z. eq-eqb r.date ticks (omega (arith, eqb-true left 0 z)))
    (λ z. eq-eqb left 0 (omega (arith, eqb-true r.date ticks z))))
