-- A table written over a block part by part: the whole of it, or all but the store.
use Rattle.std.specs.Prelude.{ℕ, List, [], ◌∷◌}
use Rattle.rules.specs.declared.Timer.{Timer}
use Rattle.tables.specs.declared.front.Front.{Front}
use Rattle.packing.specs.Bytes.{word_width, put}
use Rattle.packing.specs.Timers.{timers_put}
use Rattle.layout.specs.Layout.{element_place, criterion_place, ticks_place, timers_place}
use Rattle.layout.specs.Heads.{head_put}

-- all that stands behind it
unfoldable pub tail_put : ℕ → List Timer → List ℕ → List ℕ
tail_put ticks timers block = timers_put timers_place timers (put word_width ticks_place (ticks ∷ []) block)

-- the whole table, part by part
unfoldable pub whole_put : Front → List ℕ → List ℕ → List ℕ → List ℕ
whole_put f element criterion block =
    tail_put f.ticks f.timers (put 1 criterion_place criterion (put word_width element_place element (head_put f block)))

-- the table but for its store
unfoldable pub front_packed : Front → List ℕ → List ℕ
front_packed f block = tail_put f.ticks f.timers (head_put f block)
