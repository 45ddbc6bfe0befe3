-- Event lists and the condition on them. "An event list is a number whose bit i stands for event i."
use Rattle.std.specs.Prelude.{ℕ, ◌-◌, ◌/◌, ◌%◌, ◌^◌, Bool, cond, not, eqb}
use Rattle.std.specs.Int.Bits.{bit_and, bit_or}
use Rattle.rules.specs.Words.{is_zero}

-- "bit i stands for event i"
unfoldable pub has : ℕ → ℕ → Bool
has event events = eqb (events / 2 ^ event % 2) 1

-- "operator (0 all, 1 any)": the condition that all, or any, of the listed events have arrived
unfoldable pub met : ℕ → ℕ → ℕ → Bool
met operator list arrived = cond (is_zero operator) (eqb (bit_and list arrived) list) (not (is_zero (bit_and list arrived)))

-- "event arrived, whatever it was"
unfoldable pub arrive : ℕ → ℕ → ℕ
arrive event arrived = bit_or arrived (2 ^ event)

-- the "listed events become not arrived"
unfoldable pub cleared : ℕ → ℕ → ℕ
cleared list arrived = arrived - bit_and arrived list
