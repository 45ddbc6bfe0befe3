-- A table read part by part from a block of the right size is the table of the block.
use Rattle.std.proofs.Common.{ℕ, ◌+◌, ◌*◌, ◌≡◌, refl, ap, ◌∙◌, true, List, leb, get_or, length, replicate}
use lib.ListN.{length-replicate}
use Rattle.rules.specs.declared.Timer.{Timer}
use Rattle.rules.specs.Numbers.{task_room, region_room, queue_room, store_size}
use Rattle.tables.specs.declared.front.Front.{Front}
use Rattle.tables.specs.Fronts.{whole, front_of}
use Rattle.packing.specs.Bytes.{values_taken, half_width, word_width, taken}
use Rattle.packing.specs.Timers.{timers_taken}
use Rattle.layout.specs.Layout.{priority_place, state_place, arrived_place, list_place, operator_place, awaits_place, holder_place, entries_place, opened_place, bound_place, length_place, element_place, criterion_place, ticks_place, timers_place, block_size, part, unpacked}
use Rattle.layout.specs.Fronts.{front_taken}

module _ (block : List ℕ) (size : length block ≡ block_size) where
  -- an array of zeros filled from a place on is that part of the block
  filled : (place width count : ℕ) (ns : List ℕ) → leb (place + width * count) block_size ≡ true → ns ≡ taken width place block (replicate count 0)
      → ns ≡ part place width count block
  unfolding values_taken
  filled place width count ns h e = e ∙ rw (length-replicate {A = ℕ} count 0, size, h)

  filled_timers : (rs : List Timer) → rs ≡ timers_taken timers_place block → rs ≡ (unpacked block).timers
  unfolding values_taken unpacked
  filled_timers rs e = e ∙ rw size

  unpacked_is : (priority state arrived list operator awaits holder entries opened bound lengths element criterion ticks : List ℕ) (timers : List Timer)
      → priority ≡ taken 1 priority_place block (replicate task_room 0)
      → state ≡ taken 1 state_place block (replicate task_room 0)
      → arrived ≡ taken half_width arrived_place block (replicate task_room 0)
      → list ≡ taken half_width list_place block (replicate task_room 0)
      → operator ≡ taken 1 operator_place block (replicate task_room 0)
      → awaits ≡ taken 1 awaits_place block (replicate task_room 0)
      → holder ≡ taken 1 holder_place block (replicate region_room 0)
      → entries ≡ taken 1 entries_place block (replicate region_room 0)
      → opened ≡ taken 1 opened_place block (replicate region_room 0)
      → bound ≡ taken 1 bound_place block (replicate queue_room 0)
      → lengths ≡ taken 1 length_place block (replicate queue_room 0)
      → element ≡ taken word_width element_place block (replicate store_size 0)
      → criterion ≡ taken 1 criterion_place block (replicate store_size 0)
      → ticks ≡ taken word_width ticks_place block (replicate 1 0)
      → timers ≡ timers_taken timers_place block
      → record {
        tasks = get_or block 0 0;
        regions = get_or block 1 0;
        queues = get_or block 2 0;
        elected = get_or block 3 0;
        priority = priority;
        state = state;
        arrived = arrived;
        list = list;
        operator = operator;
        awaits = awaits;
        holder = holder;
        entries = entries;
        opened = opened;
        bound = bound;
        length = lengths;
        element = element;
        criterion = criterion;
        ticks = get_or ticks 0 0;
        timers = timers;
      }
      ≡ unpacked block
  unfolding unpacked
  unpacked_is priority state arrived list operator awaits holder entries opened bound lengths element criterion ticks timers a b c d e w f n o g h i j k l =
      λ x.
      record {
        tasks = get_or block 0 0;
        regions = get_or block 1 0;
        queues = get_or block 2 0;
        elected = get_or block 3 0;
        priority = filled priority_place 1 task_room priority refl a x;
        state = filled state_place 1 task_room state refl b x;
        arrived = filled arrived_place half_width task_room arrived refl c x;
        list = filled list_place half_width task_room list refl d x;
        operator = filled operator_place 1 task_room operator refl e x;
        awaits = filled awaits_place 1 task_room awaits refl w x;
        holder = filled holder_place 1 region_room holder refl f x;
        entries = filled entries_place 1 region_room entries refl n x;
        opened = filled opened_place 1 region_room opened refl o x;
        bound = filled bound_place 1 queue_room bound refl g x;
        length = filled length_place 1 queue_room lengths refl h x;
        element = filled element_place word_width store_size element refl i x;
        criterion = filled criterion_place 1 store_size criterion refl j x;
        ticks = get_or (filled ticks_place word_width 1 ticks refl k x) 0 0;
        timers = filled_timers timers l x;
      }

-- of a block of the right size, front and store are those of its table
module _ (block : List ℕ) (size : length block ≡ block_size) where
  front_whole : front_taken block ≡ front_of (unpacked block)
  unfolding front_taken
  front_whole =
      ap front_of
      (unpacked_is block size _ _ _ _ _ _ _ _ _ _ _ _ _ _ _ refl refl refl refl refl refl refl refl refl refl refl refl refl refl refl)

  -- an array of the right length, whatever stood there, filled from a place on
  refilled : (place width count : ℕ) (old ns : List ℕ) → leb (place + width * count) block_size ≡ true → length old ≡ count
      → ns ≡ taken width place block old → ns ≡ part place width count block
  unfolding values_taken
  refilled place width count old ns h l e = e ∙ rw (l, size, h)

  element_is : (old es : List ℕ) → length old ≡ store_size → es ≡ taken word_width element_place block old → es ≡ (unpacked block).element
  unfolding unpacked
  element_is old es l e = refilled element_place word_width store_size old es refl l e

  criterion_is : (old cs : List ℕ) → length old ≡ store_size → cs ≡ taken 1 criterion_place block old → cs ≡ (unpacked block).criterion
  unfolding unpacked
  criterion_is old cs l e = refilled criterion_place 1 store_size old cs refl l e

  pub parts_read : (f : Front) → f ≡ front_taken block → (old es : List ℕ) → length old ≡ store_size → es ≡ taken word_width element_place block old
      → (before cs : List ℕ) → length before ≡ store_size → cs ≡ taken 1 criterion_place block before → whole f es cs ≡ unpacked block
  parts_read f a old es l b before cs m c = rw (a ∙ front_whole, element_is old es l b, criterion_is before cs m c) refl
