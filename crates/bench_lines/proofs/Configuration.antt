-- Laws of the first line: its numbers, two digits each, and each reason to refuse it.
use Rattle.std.proofs.Common.{ℕ, zero, suc, ◌+◌, ◌*◌, ◌-◌, ◌/◌, ◌%◌, ◌<◌, ◌≤◌, ◌≡◌, refl, sym, ap, ◌∙◌, Bool, true, false, cond, ◌&&◌, ◌||◌, List, [], ◌∷◌, arith, eqb, ltb, leb, length, take, drop, get_or, set, replicate, length-drop, take_all, length-take-le, get_or-take, get_or-drop}
use mathlib.Core.Bool.{and-true}
use lib.Seq.{take-length, take-append-le, drop-append-le}
use borrow.Author.Tests.{lt-ltb, le-leb, eq-eqb, ne_eqb, leb-true, leb-false}
use Rattle.std.specs.Simd.{first_chunks}
use Rattle.rules.specs.Numbers.{task_room, priority_end, region_room, queue_room, nobody}
use Rattle.rules.specs.Words.{all, every, padded}
use Rattle.rules.specs.Validity.{counts_in_range, bound_in_range, mark_in_range}
use Rattle.rules.specs.Answers.{done, refused}
use Rattle.rules.specs.Fresh.{configuration_in_range, fresh_table, zero_table, fresh}
use Rattle.rules.proofs.Bools.{given}
use Rattle.rules.proofs.Lists.{every_cons, every_nil, every_take, every_drop, padded_at, padded_past, length_padded}
use Rattle.digits.specs.Digits.{digit, value}
use Rattle.digits.proofs.Hexadecimal.{two_digits, two_digits_small}
use Rattle.tables.proofs.Fills.{filled, filled_again, filled_end}
use Rattle.lines.specs.Ends.{longest, part}
use Rattle.bench_lines.specs.Start.{first_refused}
use Rattle.bench_lines.specs.First.{number_room, plain, numbers, tasks_in, regions_in, queues_in, priorities_in, bounds_in, marks_in, digits_for, first_reasons, first_done}
use Rattle.bench_lines.proofs.Plain.{plain_short}

-- ---- the numbers of a line

pub numbers_length : (xs : List ℕ) → (2 * length (numbers xs) ≤ length xs) × (length xs ≤ 2 * length (numbers xs) + 1)
unfolding numbers
numbers_length [] = (omega arith, omega arith)
numbers_length (x ∷ []) = (omega arith, omega arith)
numbers_length (x ∷ y ∷ xs) = let ih = numbers_length xs in (omega arith, omega arith)

pub numbers_at : (i : ℕ) (xs : List ℕ) → i < length (numbers xs) → get_or (numbers xs) i 0 ≡ digit (get_or xs (2 * i) 0) * 16 + digit (get_or xs (2 * i + 1) 0)
unfolding numbers
numbers_at i [] h = absurd (omega arith)
numbers_at i (x ∷ []) h = absurd (omega arith)
numbers_at zero (x ∷ y ∷ xs) h = two_digits x y
numbers_at (suc i) (x ∷ y ∷ xs) h =
    let two : 2 * suc i ≡ suc (suc (2 * i)) = omega arith in
    let three : suc (suc (2 * i)) + 1 ≡ suc (suc (2 * i + 1)) = omega arith in
    rw (two, three) (numbers_at i xs (omega arith))

pub numbers_small : (xs : List ℕ) → every (λ n. ltb n priority_end) (numbers xs) ≡ true
unfolding numbers
numbers_small [] = every_nil (λ n. ltb n priority_end)
numbers_small (x ∷ []) = every_nil (λ n. ltb n priority_end)
numbers_small (x ∷ y ∷ xs) =
    every_cons (λ n. ltb n priority_end) (value (x ∷ y ∷ [])) (numbers xs)
    (lt-ltb (value (x ∷ y ∷ [])) priority_end (two_digits_small x y))
    (numbers_small xs)

-- the pairs of digits that they are read from
pair_digit : (k i j : ℕ) (xs : List ℕ) → i < k → j < 2 → get_or (get_or (first_chunks 2 k xs) i []) j 0 ≡ get_or xs (2 * i + j) 0
pair_digit zero i j xs h l = absurd (omega arith)
pair_digit (suc k) zero j xs h l = let none : 2 * 0 + j ≡ j = omega arith in rw none (get_or-take 2 xs j 0 l)
pair_digit (suc k) (suc i) j xs h l =
    let place : 2 + (2 * i + j) ≡ 2 * suc i + j = omega arith in
    pair_digit k i j (drop 2 xs) (omega arith) l ∙ get_or-drop 2 xs (2 * i + j) 0 ∙ ap (λ p. get_or xs p 0) place

pub pair_number : (xs : List ℕ) (pairs : List (List ℕ)) → pairs ≡ first_chunks 2 (length xs / 2) xs → (i n : ℕ) → i < length xs / 2
    → n ≡ digit (get_or (get_or pairs i []) 0 0) * 16 + digit (get_or (get_or pairs i []) 1 0)
    → n ≡ digit (get_or xs (2 * i) 0) * 16 + digit (get_or xs (2 * i + 1) 0)
pair_number xs pairs e i n h k =
    let none : 2 * i + 0 ≡ 2 * i = omega arith in
    let high = pair_digit (length xs / 2) i 0 xs h (omega arith) in
    let low = pair_digit (length xs / 2) i 1 xs h (omega arith) in
    k ∙ rw (e, high, low, none)

-- the array that they are read into
module _ (line : List ℕ) (i : ℕ) (s : List ℕ) where
  pub numbers_again : (n : ℕ) → s ≡ filled number_room i (numbers line) → n ≡ digit (get_or line (2 * i) 0) * 16 + digit (get_or line (2 * i + 1) 0)
      → i < length line / 2 → length line ≤ longest
      → set s i n ≡ filled number_room (i + 1) (numbers line)
  numbers_again n e d h k =
      let long = numbers_length line in
      let here : i < length (numbers line) = omega arith in
      rw (d, ← numbers_at i line here) (filled_again number_room i (numbers line) s e (omega arith) here)

  pub numbers_end : s ≡ filled number_room i (numbers line) → i ≤ length line / 2 → length line / 2 ≤ i → s ≡ padded number_room 0 (numbers line)
  numbers_end e h k =
      let long = numbers_length line in
      rw take-length at (filled_end number_room i (numbers line) s (length (numbers line)) e (omega arith) (omega arith) (omega arith))

-- ---- the configuration that they make: a is the array

padded_get : (room i : ℕ) (xs : List ℕ) → get_or (padded room 0 xs) i 0 ≡ get_or xs i 0
padded_get room i xs = go (leb (length xs) i) refl
  where
    go : (b : Bool) → leb (length xs) i ≡ b → get_or (padded room 0 xs) i 0 ≡ get_or xs i 0
    go true e = padded_past room 0 xs i (leb-true (length xs) i e) ∙ sym (past xs i (leb-true (length xs) i e))
      where
        past : (ys : List ℕ) (j : ℕ) → length ys ≤ j → get_or ys j 0 ≡ 0
        past [] j h = refl
        past (y ∷ ys) zero h = absurd (omega arith)
        past (y ∷ ys) (suc j) h = past ys j (omega arith)
    go false e = padded_at room 0 xs i (leb-false (length xs) i e)

pub array_long : (line a : List ℕ) → a ≡ padded number_room 0 (numbers line) → plain line ≡ true → length a ≡ number_room
array_long line a e p =
    let few = numbers_length line in
    let short = plain_short line p in
    rw e (length_padded number_room 0 (numbers line) (omega arith))

-- a part of the array is one of the numbers
part_of : (line a : List ℕ) → a ≡ padded number_room 0 (numbers line) → (from count : ℕ) → from + count ≤ length (numbers line)
    → part from (from + count) a ≡ take count (drop from (numbers line))
unfolding padded
part_of line a e from count h =
    let xs = numbers line in
    let zeros : List ℕ = replicate (number_room - length xs) 0 in
    let so-many : from + count - from ≡ count = omega arith in
    let within : count ≤ length (drop from xs) = rw length-drop (omega arith) in
    rw (e, so-many, drop-append-le from xs zeros (omega arith), take-append-le count (drop from xs) zeros within) refl

-- it is as long as it should be
part_long : (line : List ℕ) (from count : ℕ) → from + count ≤ length (numbers line) → length (take count (drop from (numbers line))) ≡ count
part_long line from count h = length-take-le count (drop from (numbers line)) (rw length-drop (omega arith))

-- the tests that are left where counts and lists are right
fresh_left : (tasks regions queues : ℕ) (priorities bounds marks : List ℕ) → counts_in_range tasks regions queues ≡ true
    → length priorities ≡ tasks → length bounds ≡ queues → length marks ≡ regions → every (λ n. ltb n priority_end) priorities ≡ true
    → fresh tasks regions queues priorities bounds marks
    ≡ cond (every bound_in_range bounds && every mark_in_range marks)
    (done (fresh_table tasks regions queues priorities bounds marks) 0 0 0 nobody)
    (refused zero_table 20)
unfolding fresh configuration_in_range all
fresh_left tasks regions queues priorities bounds marks c p b m s =
    let ps : take tasks priorities ≡ priorities = take_all tasks priorities (omega arith) in
    let bs : take queues bounds ≡ bounds = take_all queues bounds (omega arith) in
    let ms : take regions marks ≡ marks = take_all regions marks (omega arith) in
    let enough = le-leb tasks (length priorities) (omega arith) in
    simp (c, enough, le-leb queues (length bounds) (omega arith), le-leb regions (length marks) (omega arith), ps, bs, ms, s, and-true)

module _ (line a : List ℕ) (e : a ≡ padded number_room 0 (numbers line)) (p : plain line ≡ true)
    (long : (ltb (length line) 6 || eqb (length line % 2) 1) ≡ false) where
  at : (i : ℕ) → get_or a i 0 ≡ get_or (numbers line) i 0
  at i = rw e (padded_get number_room i (numbers line))

  module _ (ok : Bool) (k : ok ≡ counts_in_range (get_or a 0 0) (get_or a 1 0) (get_or a 2 0)) where
    pub counts_refuse : ok ≡ false → first_refused 20 ≡ first_done line
    unfolding first_done first_reasons
    counts_refuse h = simp (p, long, rw (at 0, at 1, at 2) at (sym k ∙ h))

    module _ (h : ok ≡ true) where
      right : counts_in_range (get_or (numbers line) 0 0) (get_or (numbers line) 1 0) (get_or (numbers line) 2 0) ≡ true
      right = rw (at 0, at 1, at 2) at (sym k ∙ h)

      pub counts_small : (get_or a 0 0 ≤ task_room) × (get_or a 1 0 ≤ region_room) × (get_or a 2 0 ≤ queue_room)
      unfolding counts_in_range
      counts_small =
          let f = given _ right in
          let tasks = leb-true (get_or (numbers line) 0 0) task_room f.1.0 in
          let regions = leb-true (get_or (numbers line) 1 0) region_room f.1.1.0 in
          let queues = leb-true (get_or (numbers line) 2 0) queue_room f.1.1.1.0 in
          (omega (arith, at 0), omega (arith, at 1), omega (arith, at 2))

      pub length_refuses : (length line ≡ 2 * (3 + get_or a 0 0 + get_or a 2 0 + get_or a 1 0) → ⊥) → first_refused 21 ≡ first_done line
      unfolding first_done first_reasons
      length_refuses n =
          let tasks = at 0 in
          let regions = at 1 in
          let queues = at 2 in
          let other : length line ≡ digits_for (tasks_in line) (regions_in line) (queues_in line) → ⊥ = λ k. n (omega arith) in
          simp (p, long, right, ne_eqb (length line) (digits_for (tasks_in line) (regions_in line) (queues_in line)) other)

      pub accepted : length line ≡ 2 * (3 + get_or a 0 0 + get_or a 2 0 + get_or a 1 0)
          → fresh (get_or a 0 0) (get_or a 1 0) (get_or a 2 0)
          (part 3 (3 + get_or a 0 0) a)
          (part (3 + get_or a 0 0) (3 + get_or a 0 0 + get_or a 2 0) a)
          (part (3 + get_or a 0 0 + get_or a 2 0) (3 + get_or a 0 0 + get_or a 2 0 + get_or a 1 0) a)
          ≡ first_done line
      unfolding first_done first_reasons first_refused
      accepted k =
          let count = numbers_length line in
          let tasks = tasks_in line in
          let regions = regions_in line in
          let queues = queues_in line in
          let all_of : length (numbers line) ≡ 3 + tasks + queues + regions = omega (arith, at 0, at 1, at 2) in
          let fits : length line ≡ digits_for tasks regions queues = omega (arith, at 0, at 1, at 2) in
          let priorities = part_of line a e 3 tasks (omega arith) in
          let bounds = part_of line a e (3 + tasks) queues (omega arith) in
          let marks = part_of line a e (3 + tasks + queues) regions (omega arith) in
          let small = every_take (λ n. ltb n priority_end) tasks (drop 3 (numbers line)) (every_drop (λ n. ltb n priority_end) 3 (numbers line) (numbers_small line)) in
          let table =
          fresh_left tasks regions queues (priorities_in line) (bounds_in line) (marks_in line) right
          (part_long line 3 tasks (omega arith))
          (part_long line (3 + tasks) queues (omega arith))
          (part_long line (3 + tasks + queues) regions (omega arith))
          small in
          rw (at 0, at 1, at 2, priorities, bounds, marks, table)
          (go (every bound_in_range (bounds_in line)) refl (every mark_in_range (marks_in line)) refl (eq-eqb (length line) (digits_for tasks regions queues) fits))
        where
          go : (b : Bool) → every bound_in_range (bounds_in line) ≡ b → (m : Bool) → every mark_in_range (marks_in line) ≡ m
              → eqb (length line) (digits_for (tasks_in line) (regions_in line) (queues_in line)) ≡ true
              → cond (every bound_in_range (bounds_in line) && every mark_in_range (marks_in line))
              (done (fresh_table (tasks_in line) (regions_in line) (queues_in line) (priorities_in line) (bounds_in line) (marks_in line)) 0 0 0 nobody)
              (refused zero_table 20)
              ≡ first_done line
          go true d true n fits = simp (p, long, right, fits, d, n)
          go true d false n fits = simp (p, long, right, fits, d, n)
          go false d m n fits = simp (p, long, right, fits, d)
