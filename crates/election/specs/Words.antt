-- A word of bits over numbers: bit i is set exactly where number i passes. Any width will do; the laws are in proofs/Words.antt.
use Rattle.std.specs.Prelude.{ℕ, zero, suc, ◌^◌, Bool, cond}
use Rattle.std.specs.Int.Bits.{bit_or}

-- bits of the code's word of ready tasks: as many as there are tasks, or more
abbrev pub word_bits : ℕ
word_bits = 64

-- the numbers below n that pass
unfoldable pub word : ℕ → (ℕ → Bool) → ℕ
word zero passes = 0
word (suc n) passes = bit_or (word n passes) (cond (passes n) (2 ^ n) 0)
