-- Circles: the way from a task goes over the region that it waits for to who holds that, and ends where a task waits for nothing or what it waits for is free.
use Rattle.std.specs.Prelude.{ℕ, zero, suc, ◌-◌, Bool, not, ◌&&◌, ◌||◌, List, eqb, get_or}
use Rattle.rules.specs.Numbers.{task_room}
use Rattle.rules.specs.Words.{is_zero, below}

module _ (awaits holder : List ℕ) where
  -- who holds the region that this entry names, as stored; 0 where it names none
  abbrev pub held_as : ℕ → ℕ
  held_as zero = 0
  held_as (suc r) = get_or holder r 0

  -- who holds what task i waits for, as stored: 0 where the way ends
  unfoldable pub onward : ℕ → ℕ
  onward i = held_as (get_or awaits i 0)

  -- the way from task i ends within so many steps
  unfoldable pub ends : ℕ → ℕ → Bool
  ends zero i = is_zero (onward i)
  ends (suc left) i = is_zero (onward i) || ends left (onward i - 1)

  -- it comes to the caller within so many steps: an ENTER by the caller of a region that i holds "would close a circle"
  unfoldable pub meets : ℕ → ℕ → ℕ → Bool
  meets zero caller i = eqb i caller
  meets (suc left) caller i = eqb i caller || (not (is_zero (onward i)) && meets left caller (onward i - 1))

  -- "no circle": from each task the way ends, within as many steps as there is room for tasks
  unfoldable pub no_circle : Bool
  no_circle = below task_room (ends task_room)
