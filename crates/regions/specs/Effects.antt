-- ENTER and EXIT as changes of one region, for the code's shape: entries of an accepted call fit, so that the remainders change nothing.
use Rattle.std.specs.Prelude.{ℕ, ◌+◌, ◌%◌, Bool, cond, not, ◌&&◌, ◌==◌}
use Rattle.rules.specs.declared.Region.{Region}
use Rattle.rules.specs.Numbers.{nobody}
use Rattle.rules.specs.Words.{is_zero}
use Rattle.rules.specs.Regions.{exited}

-- another task than the one whose entry is `mine` holds it
abbrev pub others_region : ℕ → Region → Bool
others_region mine r = not (is_zero r.holder) && not (r.holder == mine)

-- a region after ENTER by the task whose entry is `mine`
unfoldable pub region_entered : ℕ → Region → Region
region_entered mine r = cond (others_region mine r) r (record { holder = mine; entries = (r.entries + 1) % 256 })

-- and after EXIT, where `heir` gets it: 255 for nobody
unfoldable pub region_left : ℕ → Region → Region
region_left heir r = cond (heir == nobody) (exited r) (record { holder = (heir + 1) % 256; entries = 1 })
