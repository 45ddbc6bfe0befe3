-- What the first line does: the table after it, and its answer.
use Rattle.std.specs.Prelude.{ℕ, ◌+◌, ◌*◌, ◌/◌, ◌%◌, Bool, cond, not, ◌&&◌, ◌||◌, List, [], ◌∷◌, eqb, ltb, leb, length, get_or, take, drop}
use Rattle.rules.specs.declared.Done.{Done}
use Rattle.rules.specs.Numbers.{nobody}
use Rattle.rules.specs.Words.{is_zero, every, Reason, when, first}
use Rattle.rules.specs.Validity.{counts_in_range, bound_in_range, mark_in_range}
use Rattle.rules.specs.Answers.{done}
use Rattle.rules.specs.Fresh.{fresh_table}
use Rattle.digits.specs.Digits.{is_digit, value}
use Rattle.lines.specs.Ends.{longest}
use Rattle.bench_lines.specs.Start.{first_refused}

-- no "other character", and not over 192 characters
unfoldable pub plain : List ℕ → Bool
plain line = leb (length line) longest && every is_digit line

-- "two digits each": half as many numbers as characters
abbrev pub number_room : ℕ
number_room = longest / 2

unfoldable pub numbers : List ℕ → List ℕ
numbers [] = []
numbers (x ∷ []) = []
numbers (x ∷ y ∷ rest) = value (x ∷ y ∷ []) ∷ numbers rest

-- "task, region and queue counts, the priorities, then the bounds", and since T-09 "two digits a region .. after the bounds"
abbrev pub tasks_in : List ℕ → ℕ
tasks_in line = get_or (numbers line) 0 0

abbrev pub regions_in : List ℕ → ℕ
regions_in line = get_or (numbers line) 1 0

abbrev pub queues_in : List ℕ → ℕ
queues_in line = get_or (numbers line) 2 0

abbrev pub priorities_in : List ℕ → List ℕ
priorities_in line = take (tasks_in line) (drop 3 (numbers line))

abbrev pub bounds_in : List ℕ → List ℕ
bounds_in line = take (queues_in line) (drop (3 + tasks_in line) (numbers line))

abbrev pub marks_in : List ℕ → List ℕ
marks_in line = take (regions_in line) (drop (3 + tasks_in line + queues_in line) (numbers line))

-- the length that fits the counts: two digits for each count, task, queue and region
abbrev pub digits_for : ℕ → ℕ → ℕ → ℕ
digits_for tasks regions queues = 6 + 2 * (tasks + queues + regions)

-- "after these: under 6 digits or an odd number is 21; counts out of range 20; a length that doesn't fit the counts 21; then bounds 20",
-- and of the marks "00 closed or 01 open, else 20"
unfoldable pub first_reasons : List ℕ → List Reason
first_reasons line =
    when 21 (not (plain line))
    ∷ when 21 (ltb (length line) 6 || eqb (length line % 2) 1)
    ∷ when 20 (not (counts_in_range (tasks_in line) (regions_in line) (queues_in line)))
    ∷ when 21 (not (eqb (length line) (digits_for (tasks_in line) (regions_in line) (queues_in line))))
    ∷ when 20 (not (every bound_in_range (bounds_in line)))
    ∷ when 20 (not (every mark_in_range (marks_in line)))
    ∷ []

unfoldable pub first_done : List ℕ → Done
first_done line =
    cond (is_zero (first (first_reasons line)))
    (done (fresh_table (tasks_in line) (regions_in line) (queues_in line) (priorities_in line) (bounds_in line) (marks_in line)) 0 0 0 nobody)
    (first_refused (first (first_reasons line)))
