-- A value has always the same number of bytes: what each kind of value keeps.
use Rattle.std.specs.Prelude.{◌≡◌, ℕ, zero, suc, ◌/◌, length, refl}
use Rattle.std.proofs.Common.{ap}
use Rattle.rules.specs.declared.Timer.{Timer}
use Rattle.packing.specs.Bytes.{bytes}
use Rattle.packing.specs.Timers.{timer_width, timer_bytes}

pub bytes_length : (width n : ℕ) → length (bytes width n) ≡ width
unfolding bytes
bytes_length zero n = refl
bytes_length (suc width) n = ap suc (bytes_length width (n / 256))

pub timer_length : (r : Timer) → length (timer_bytes r) ≡ timer_width
unfolding timer_bytes bytes
timer_length r = refl
