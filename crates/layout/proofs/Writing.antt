-- A table written part by part over a block of the right size is the block of the table.
use Rattle.std.proofs.Common.{ℕ, ◌+◌, ◌*◌, ◌≤◌, ◌≡◌, refl, sym, ap, ◌∙◌, true, List, [], ◌∷◌, ◌++◌, append-nil, arith, leb, length, take, drop, drop_of_length-le, length-append, length-drop, take_at, drop_at, drop-drop, leb-true}
use Rattle.rules.specs.declared.Timer.{Timer}
use Rattle.rules.specs.Numbers.{task_room, region_room, queue_room, store_size, timer_room}
use Rattle.tables.specs.declared.front.Front.{Front}
use Rattle.tables.specs.Fronts.{whole}
use Rattle.packing.specs.Bytes.{values_bytes, values_put, half_width, word_width, bytes, spread, over, put}
use Rattle.packing.specs.Timers.{timer_width, timers_bytes, timers_put}
use Rattle.packing.proofs.RoundTrips.{spread_length, timers_length}
use Rattle.layout.specs.Layout.{priority_place, state_place, arrived_place, list_place, operator_place, awaits_place, holder_place, entries_place, opened_place, bound_place, length_place, element_place, criterion_place, ticks_place, timers_place, block_size, packed}
use Rattle.layout.proofs.Sizes.{Sized}
use Rattle.layout.specs.Heads.{head_put}
use Rattle.layout.specs.Wholes.{tail_put, whole_put}

-- ---- writing: up to a place the block holds `front`, and the old bytes behind it

pub record Written (place : ℕ) (front old block : List ℕ) : Type 0 where
  pub long : length front ≡ place
  pub whole : block ≡ front ++ drop place old

module _ (old : List ℕ) (size : length old ≡ block_size) where
  pub written_length : (place : ℕ) (front block : List ℕ) → place ≤ block_size → Written place front old block → length block ≡ block_size
  written_length place front block h w = rw (w.whole, length-append, length-drop, w.long, size) (omega arith)

  over_next : (place n : ℕ) (front block bs : List ℕ) → Written place front old block → length bs ≡ n
      → Written (place + n) (front ++ bs) old (over place bs block)
  unfolding over
  over_next place n front block bs w l =
      let behind : drop (place + n) block ≡ drop (place + n) old =
      sym (drop-drop n place block)
      ∙ ap (drop n) (ap (drop place) w.whole ∙ drop_at front (drop place old) place w.long)
      ∙ drop-drop n place old
      in
      let before : take place block ≡ front = ap (take place) w.whole ∙ take_at front (drop place old) place w.long in
      record { long = rw (length-append, w.long, l); whole = rw (l, before, behind) }

  -- a column in the bytes that come next
  column_next : (place width count : ℕ) {front block : List ℕ} (ns after : List ℕ) → Written place front old block → length ns ≡ count
      → leb (place + width * count) block_size ≡ true → after ≡ put width place ns block
      → Written (place + width * count) (front ++ spread width ns) old after
  unfolding values_put
  column_next place width count {front} {block} ns after w l h e =
      let fits = leb-true (place + width * count) block_size h in
      let long = written_length place front block (omega arith) w in
      let there : after ≡ over place (spread width ns) block = e ∙ rw (l, long, h) in
      rw there (over_next place (width * count) front block (spread width ns) w (rw (spread_length, l)))

  timers_next : {front block : List ℕ} (rs : List Timer) (after : List ℕ) → Written timers_place front old block → length rs ≡ timer_room
      → after ≡ timers_put timers_place rs block → after ≡ front ++ timers_bytes rs
  unfolding timers_put
  timers_next {front} {block} rs after w l e =
      let long = written_length timers_place front block (omega arith) w in
      let there : after ≡ over timers_place (timers_bytes rs) block = e ∙ rw long in
      let all = over_next timers_place (timer_width * timer_room) front block (timers_bytes rs) w (rw (timers_length, l)) in
      let past : length old ≤ timers_place + timer_width * timer_room = omega arith in
      there ∙ all.whole ∙ rw (drop_of_length-le old past) (append-nil (front ++ timers_bytes rs))

-- the bytes before the store
unfoldable pub head_of : Front → List ℕ
head_of f =
    bytes 1 f.tasks
    ++ bytes 1 f.regions
    ++ bytes 1 f.queues
    ++ bytes 1 f.elected
    ++ spread 1 f.priority
    ++ spread 1 f.state
    ++ spread half_width f.arrived
    ++ spread half_width f.list
    ++ spread 1 f.operator
    ++ spread 1 f.awaits
    ++ spread 1 f.holder
    ++ spread 1 f.entries
    ++ spread 1 f.opened
    ++ spread 1 f.bound
    ++ spread 1 f.length

four_bytes : (a b c d : ℕ) → spread 1 (a ∷ b ∷ c ∷ d ∷ []) ≡ bytes 1 a ++ bytes 1 b ++ bytes 1 c ++ bytes 1 d
unfolding values_bytes bytes
four_bytes a b c d = refl

one_word : (n : ℕ) → spread word_width (n ∷ []) ≡ bytes word_width n
unfolding values_bytes
one_word n = append-nil (bytes word_width n)

-- up to the store
pub head_next : (f : Front) (es cs old : List ℕ) → Sized (whole f es cs) → (size : length old ≡ block_size) → Written element_place (head_of f) old (head_put f old)
unfolding head_put head_of
head_next f es cs old s size =
    let start : Written 0 [] old old = record { long = refl; whole = refl } in
    let counts = rw four_bytes at (column_next old size 0 1 4 (f.tasks ∷ f.regions ∷ f.queues ∷ f.elected ∷ []) _ start refl refl refl) in
    let priority = column_next old size priority_place 1 task_room f.priority _ counts s.priority_long refl refl in
    let state = column_next old size state_place 1 task_room f.state _ priority s.state_long refl refl in
    let arrived = column_next old size arrived_place half_width task_room f.arrived _ state s.arrived_long refl refl in
    let list = column_next old size list_place half_width task_room f.list _ arrived s.list_long refl refl in
    let operator = column_next old size operator_place 1 task_room f.operator _ list s.operator_long refl refl in
    let awaits = column_next old size awaits_place 1 task_room f.awaits _ operator s.awaits_long refl refl in
    let holder = column_next old size holder_place 1 region_room f.holder _ awaits s.holder_long refl refl in
    let entries = column_next old size entries_place 1 region_room f.entries _ holder s.entries_long refl refl in
    let opened = column_next old size opened_place 1 region_room f.opened _ entries s.opened_long refl refl in
    let bound = column_next old size bound_place 1 queue_room f.bound _ opened s.bound_long refl refl in
    column_next old size length_place 1 queue_room f.length _ bound s.length_long refl refl

pub whole_put_lem : (f : Front) (es cs block : List ℕ) → Sized (whole f es cs) → length block ≡ block_size → whole_put f es cs block ≡ packed (whole f es cs)
unfolding whole_put packed head_of tail_put
whole_put_lem f es cs old s size =
    let head = head_next f es cs old s size in
    let element = column_next old size element_place word_width store_size es _ head s.element_long refl refl in
    let criterion = column_next old size criterion_place 1 store_size cs _ element s.criterion_long refl refl in
    let ticks = rw one_word at (column_next old size ticks_place word_width 1 (f.ticks ∷ []) _ criterion refl refl refl) in
    timers_next old size f.timers _ ticks s.timers_long refl
