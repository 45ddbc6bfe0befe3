-- Whom a number names, where it may name nobody.
use Rattle.std.specs.Prelude.{ℕ, suc, not, eqb, Option, None, Some}
use Rattle.std.specs.Bool.{then_some}
use Rattle.rules.specs.Numbers.{nobody}

-- how it is stored: 0 for nobody, else the number plus 1, as `names` reads it
abbrev pub stored : Option ℕ → ℕ
stored None = 0
stored (Some n) = suc n

-- of an election's number: 255 is nobody
abbrev pub unless_nobody : ℕ → Option ℕ
unless_nobody n = then_some (not (eqb n nobody)) n
