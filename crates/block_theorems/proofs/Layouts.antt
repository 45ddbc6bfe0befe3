-- The layout part by part: a table that fits its bytes comes back from its block, and a block of the right size comes back from its table.
use Rattle.std.proofs.Common.{ℕ, zero, suc, ◌+◌, ◌*◌, ◌<◌, ◌≡◌, refl, sym, ap, ◌∙◌, true, List, [], ◌∷◌, ◌++◌, map, append_assoc, append-nil, arith, mod-eq_of_lt, get_or, length, take, drop, length-append, get_or-drop, ltb-true, eq-eqb}
use lib.Seq.{drop-append-add}
use Rattle.rules.specs.declared.Table.{Table}
use Rattle.rules.specs.Numbers.{task_room, region_room, queue_room, store_size, timer_room}
use Rattle.rules.specs.Words.{every}
use Rattle.rules.proofs.Lists.{every_both, every_cons, every_nil}
use Rattle.rules.proofs.Counts.{below_all}
use Rattle.packing.specs.Bytes.{values_bytes, half_width, word_width, bytes, spread}
use Rattle.packing.specs.Timers.{timer_width, unused_place, timers_in, timers_bytes}
use Rattle.packing.proofs.RoundTrips.{fits, bytes_length, bytes_small, spread_length, spread_small, numbers_spread, timers_length, timers_small, timers_read, timers_unused}
use Rattle.layout.specs.Layout.{priority_place, state_place, arrived_place, list_place, operator_place, awaits_place, holder_place, entries_place, opened_place, bound_place, length_place, element_place, criterion_place, ticks_place, timers_place, block_size, part, unpacked, packed, unused_zero}
use Rattle.layout.proofs.Back.{bytes_back as packed-unpacked}
use Rattle.block_theorems.specs.Ranges.{are_bytes}
use Rattle.block_theorems.specs.Packed.{BytesBack}
use Rattle.block_theorems.proofs.Fitting.{Sized, Fitting}

-- ---- the parts of a block, one behind the other

abbrev appended : List (List ℕ) → List ℕ
appended [] = []
appended (p ∷ ps) = p ++ appended ps

abbrev total : List ℕ → ℕ
total [] = 0
total (n ∷ ns) = n + total ns

length_appended : (ps : List (List ℕ)) → length (appended ps) ≡ total (map length ps)
length_appended [] = refl
length_appended (p ∷ ps) = length-append p (appended ps) ∙ ap (λ n. length p + n) (length_appended ps)

-- what stands behind the first k
drop_appended : (k : ℕ) (ps : List (List ℕ)) → drop (total (take k (map length ps))) (appended ps) ≡ appended (drop k ps)
drop_appended zero ps = refl
drop_appended (suc k) [] = refl
drop_appended (suc k) (p ∷ ps) = drop-append-add p (appended ps) _ ∙ drop_appended k ps

module _ (t : Table) where
  abbrev parts : List (List ℕ)
  parts =
      bytes 1 t.tasks
      ∷ bytes 1 t.regions
      ∷ bytes 1 t.queues
      ∷ bytes 1 t.elected
      ∷ spread 1 t.priority
      ∷ spread 1 t.state
      ∷ spread half_width t.arrived
      ∷ spread half_width t.list
      ∷ spread 1 t.operator
      ∷ spread 1 t.awaits
      ∷ spread 1 t.holder
      ∷ spread 1 t.entries
      ∷ spread 1 t.opened
      ∷ spread 1 t.bound
      ∷ spread 1 t.length
      ∷ spread word_width t.element
      ∷ spread 1 t.criterion
      ∷ bytes word_width t.ticks
      ∷ timers_bytes t.timers
      ∷ []

  packed_appended : packed t ≡ appended parts
  unfolding packed
  packed_appended = simp (append_assoc, append-nil)

  pub packed_small : are_bytes (packed t) ≡ true
  unfolding packed
  packed_small = simp (every_both, bytes_small, spread_small, timers_small)

-- how many bytes each has
abbrev sizes : List ℕ
sizes =
    1
    ∷ 1
    ∷ 1
    ∷ 1
    ∷ task_room
    ∷ task_room
    ∷ half_width * task_room
    ∷ half_width * task_room
    ∷ task_room
    ∷ task_room
    ∷ region_room
    ∷ region_room
    ∷ region_room
    ∷ queue_room
    ∷ queue_room
    ∷ word_width * store_size
    ∷ store_size
    ∷ 4
    ∷ timer_width * timer_room
    ∷ []

module _ (t : Table) (s : Sized t) where
  parts_sizes : map length (parts t) ≡ sizes
  parts_sizes =
      simp (
        bytes_length,
        spread_length,
        timers_length,
        s.priority,
        s.state,
        s.arrived,
        s.list,
        s.operator,
        s.awaits,
        s.holder,
        s.entries,
        s.opened,
        s.bound,
        s.lengths,
        s.element,
        s.criterion,
        s.timers,
      )

  pub packed_size : length (packed t) ≡ block_size
  packed_size = ap length (packed_appended t) ∙ length_appended (parts t) ∙ ap total parts_sizes

  from : (k : ℕ) → drop (total (take k sizes)) (packed t) ≡ appended (drop k (parts t))
  from k = rw (packed_appended t, ← parts_sizes) (drop_appended k (parts t))

-- ---- packed, then unpacked

-- a single byte, a column, the timers, where it is known what stands from their place on
byte_read : (block rest : List ℕ) (place n : ℕ) → drop place block ≡ bytes 1 n ++ rest → fits 1 n ≡ true → get_or block place 0 ≡ n
unfolding bytes
byte_read block rest place n e h =
    let z : place + 0 ≡ place = omega arith in
    rw z at (sym (get_or-drop place block 0 0) ∙ ap (λ bs. get_or bs 0 0) e ∙ mod-eq_of_lt (ltb-true n 256 h))

column_read : (width count place : ℕ) (block ns rest : List ℕ) → drop place block ≡ spread width ns ++ rest → length ns ≡ count
    → every (fits width) ns ≡ true → part place width count block ≡ ns
column_read width count place block ns rest e l h = rw (e, ← l) (numbers_spread width ns rest h)

same_table : (u t : Table)
    → u.tasks ≡ t.tasks
    → u.regions ≡ t.regions
    → u.queues ≡ t.queues
    → u.elected ≡ t.elected
    → u.priority ≡ t.priority
    → u.state ≡ t.state
    → u.arrived ≡ t.arrived
    → u.list ≡ t.list
    → u.operator ≡ t.operator
    → u.awaits ≡ t.awaits
    → u.holder ≡ t.holder
    → u.entries ≡ t.entries
    → u.opened ≡ t.opened
    → u.bound ≡ t.bound
    → u.length ≡ t.length
    → u.element ≡ t.element
    → u.criterion ≡ t.criterion
    → u.ticks ≡ t.ticks
    → u.timers ≡ t.timers
    → u ≡ t
same_table u t a b c d e f g h i w j q v k l m n o p =
    λ x.
    record {
      tasks = a x;
      regions = b x;
      queues = c x;
      elected = d x;
      priority = e x;
      state = f x;
      arrived = g x;
      list = h x;
      operator = i x;
      awaits = w x;
      holder = j x;
      entries = q x;
      opened = v x;
      bound = k x;
      length = l x;
      element = m x;
      criterion = n x;
      ticks = o x;
      timers = p x;
    }

module _ (t : Table) (s : Sized t) (f : Fitting t) where
  ticks_read : get_or (part ticks_place word_width 1 (packed t)) 0 0 ≡ t.ticks
  unfolding bytes values_bytes
  ticks_read = ap (λ ns. get_or ns 0 0) (column_read word_width 1 ticks_place (packed t) (t.ticks ∷ []) _ (from t s 17) refl ticks_fit)
    where
      ticks_fit : every (fits word_width) (t.ticks ∷ []) ≡ true
      ticks_fit = every_cons (fits word_width) t.ticks [] f.ticks (every_nil (fits word_width))

  timers_back : timers_in timer_room (drop timers_place (packed t)) ≡ t.timers
  timers_back = rw (from t s 18, ← s.timers) (timers_read t.timers [] f.timers)

  pub packed_back : unpacked (packed t) ≡ t
  unfolding unpacked
  packed_back =
      same_table _ t
      (byte_read (packed t) _ 0 _ (from t s 0) f.tasks)
      (byte_read (packed t) _ 1 _ (from t s 1) f.regions)
      (byte_read (packed t) _ 2 _ (from t s 2) f.queues)
      (byte_read (packed t) _ 3 _ (from t s 3) f.elected)
      (column_read 1 task_room priority_place (packed t) _ _ (from t s 4) s.priority f.priority)
      (column_read 1 task_room state_place (packed t) _ _ (from t s 5) s.state f.state)
      (column_read half_width task_room arrived_place (packed t) _ _ (from t s 6) s.arrived f.arrived)
      (column_read half_width task_room list_place (packed t) _ _ (from t s 7) s.list f.list)
      (column_read 1 task_room operator_place (packed t) _ _ (from t s 8) s.operator f.operator)
      (column_read 1 task_room awaits_place (packed t) _ _ (from t s 9) s.awaits f.awaits)
      (column_read 1 region_room holder_place (packed t) _ _ (from t s 10) s.holder f.holder)
      (column_read 1 region_room entries_place (packed t) _ _ (from t s 11) s.entries f.entries)
      (column_read 1 region_room opened_place (packed t) _ _ (from t s 12) s.opened f.opened)
      (column_read 1 queue_room bound_place (packed t) _ _ (from t s 13) s.bound f.bound)
      (column_read 1 queue_room length_place (packed t) _ _ (from t s 14) s.lengths f.lengths)
      (column_read word_width store_size element_place (packed t) _ _ (from t s 15) s.element f.element)
      (column_read 1 store_size criterion_place (packed t) _ _ (from t s 16) s.criterion f.criterion)
      ticks_read
      timers_back

  pub packed_unused : unused_zero (packed t) ≡ true
  unfolding unused_zero
  packed_unused = below_all _ timer_room (λ i k. eq-eqb _ 0 (zero_at_lem i k))
    where
      zero_at_lem : (i : ℕ) → i < timer_room → get_or (packed t) (timers_place + timer_width * i + unused_place) 0 ≡ 0
      zero_at_lem i k =
          let place : timers_place + (timer_width * i + unused_place) ≡ timers_place + timer_width * i + unused_place = omega arith in
          ap (λ j. get_or (packed t) j 0) (sym place)
          ∙ sym (get_or-drop timers_place (packed t) (timer_width * i + unused_place) 0)
          ∙ ap (λ bs. get_or bs (timer_width * i + unused_place) 0) (from t s 18)
          ∙ timers_unused t.timers [] i (rw s.timers k)

-- ---- unpacked, then packed: the law that the exported calls are proved by

pub bytes_back : BytesBack
bytes_back block small size zeros = packed-unpacked block small size zeros
