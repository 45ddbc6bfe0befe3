-- An answer as one number, which C can take from a register.
use Rattle.std.specs.Prelude.{ℕ, ◌+◌, ◌*◌}
use Rattle.rules.specs.declared.Answer.{Answer}

-- an answer as one number of 64 bits: status, elected, key, displaced, a byte each, and the value in the upper half
unfoldable pub answer_number : Answer → ℕ
answer_number r = r.status + 256 * r.elected + 65536 * r.key + 16777216 * r.displaced + 4294967296 * r.value
