-- SIGNAL: one bit is added to the events, and the task wakes or stays; and the condition it waits for.
use Rattle.std.proofs.Common.{ℕ, ◌*◌, ◌%◌, ◌^◌, ◌<◌, ◌≡◌, refl, Bool, true, false, cond, not, ◌&&◌, ◌||◌, arith, one-mul, mod-eq_of_lt, eqb, bit_or}
use mathlib.Core.Bool.{or-false}
use lib.Pow.{pow-lt}
use Rattle.rules.specs.declared.Task.{Task}
use Rattle.rules.specs.Numbers.{list_end, event_end}
use Rattle.rules.specs.Events.{met, arrive}
use Rattle.rules.specs.Tasks.{waiting, as_woken, with_arrived, woken, signalled}

-- one of two tests, as code without a branch picks it
pub picked : (b x y : Bool) → ((b && x) || (not b && y)) ≡ cond b x y
picked true x y = or-false x
picked false x y = refl

-- the machine's one bit
pub bit_is : (e : ℕ) → (1 * 2 ^ (e % event_end)) % list_end ≡ 2 ^ (e % event_end)
bit_is e = let small : e % event_end < event_end = omega arith in rw one-mul (mod-eq_of_lt (pow-lt small))

-- with that bit added to the events, the task wakes or stays
module _ (e x : ℕ) (r : Task) (m : Bool) (bit : x ≡ 2 ^ e) (is : m ≡ met r.operator r.list (bit_or r.arrived x)) where
  pub wakes_is : (eqb r.state waiting && m) ≡ true → as_woken (with_arrived (bit_or r.arrived x) r) ≡ signalled e r
  unfolding signalled arrive woken
  wakes_is h = rw (← bit, ← is, h)

  pub stays_is : (eqb r.state waiting && m) ≡ false → with_arrived (bit_or r.arrived x) r ≡ signalled e r
  unfolding signalled arrive woken
  stays_is h = rw (← bit, ← is, h)
