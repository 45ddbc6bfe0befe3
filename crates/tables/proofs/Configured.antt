-- A configuration: each test that fails refuses it, and one that passes them all gives the fresh table.
use Rattle.std.proofs.Common.{◌≡◌, ℕ, zero, ◌-◌, ◌<◌, ◌≤◌, Bool, true, false, ltb, List, length, get_or, take, None, Some, [], ◌∷◌, suc, ap, ◌∙◌, refl, le-leb, lt-ltb, arith, Fits, w8}
use Rattle.std.proofs.lemmas.Bool.{lt-leb}
use mathlib.Core.Bool.{and-false}
use Rattle.std.specs.Bool.{then_some}
use Rattle.std.specs.List.{slice_range}
use Rattle.rules.specs.declared.Table.{Table}
use Rattle.rules.specs.Numbers.{task_room, priority_end, region_room, queue_room, nobody}
use Rattle.rules.specs.Words.{all, every, padded}
use Rattle.rules.specs.Validity.{counts_in_range, bound_in_range, mark_in_range}
use Rattle.rules.specs.Fresh.{configuration_in_range, fresh_table, zero_table, fresh}
use Rattle.rules.specs.Answers.{refused}
use Rattle.std.proofs.lemmas.Option.{same_Some}
use Rattle.rules.proofs.Lists.{every_cons}
use Rattle.tables.specs.Fresh.{fresh_by}

module _ (tasks regions queues : ℕ) (priorities bounds marks : List ℕ) where
  abbrev Refuses : Type 0
  Refuses = None ≡ then_some (configuration_in_range tasks regions queues priorities bounds marks) (fresh_table tasks regions queues priorities bounds marks)

  pub counts_refuse : counts_in_range tasks regions queues ≡ false → Refuses
  unfolding configuration_in_range all
  counts_refuse h = rw h

  module _ (c : counts_in_range tasks regions queues ≡ true) where
    pub priorities_refuse : length priorities < tasks → Refuses
    unfolding configuration_in_range all
    priorities_refuse h = rw (c, lt-leb tasks (length priorities) h)

    module _ (p : tasks ≤ length priorities) where
      pub bounds_refuse : length bounds < queues → Refuses
      unfolding configuration_in_range all
      bounds_refuse h = rw (c, le-leb tasks (length priorities) p, lt-leb queues (length bounds) h)

      module _ (b : queues ≤ length bounds) where
        pub marks_refuse : length marks < regions → Refuses
        unfolding configuration_in_range all
        marks_refuse h = rw (c, le-leb tasks (length priorities) p, le-leb queues (length bounds) b, lt-leb regions (length marks) h)

        module _ (m : regions ≤ length marks) where
          pub bound_refuses : every bound_in_range (take queues bounds) ≡ false → Refuses
          unfolding configuration_in_range all
          bound_refuses h =
              simp (c, le-leb tasks (length priorities) p, le-leb queues (length bounds) b, le-leb regions (length marks) m, h, and-false)

          pub mark_refuses : every mark_in_range (take regions marks) ≡ false → Refuses
          unfolding configuration_in_range all
          mark_refuses h =
              simp (c, le-leb tasks (length priorities) p, le-leb queues (length bounds) b, le-leb regions (length marks) m, h, and-false)

          pub accepts : every (λ x. ltb x priority_end) (take tasks priorities) ≡ true
              → every bound_in_range (take queues bounds) ≡ true
              → every mark_in_range (take regions marks) ≡ true
              → Some (fresh_by tasks regions queues (padded task_room 0 (take tasks priorities)) (padded queue_room 0 (take queues bounds))
              (padded region_room 0 (take regions marks)))
              ≡ then_some (configuration_in_range tasks regions queues priorities bounds marks) (fresh_table tasks regions queues priorities bounds marks)
          unfolding fresh_table configuration_in_range all
          accepts s h n =
              rw (c, le-leb tasks (length priorities) p, le-leb queues (length bounds) b, le-leb regions (length marks) m, s, h, n)

-- what the first n of a list are, as `get(..n)` says it
pub first_of : (xs : List ℕ) (n m : ℕ) {ys : List ℕ} → ys ≡ slice_range xs 0 m → m ≡ n → ys ≡ take n xs
first_of xs n m e k = let none : m - 0 ≡ n = omega arith in e ∙ ap (λ i. take i xs) none

-- bytes are priorities
pub bytes_fit : (xs : List ℕ) → ((i : ℕ) → Fits w8 (get_or xs i 0)) → (n : ℕ) → every (λ p. ltb p priority_end) (take n xs) ≡ true
unfolding every
bytes_fit xs h zero = refl
bytes_fit [] h (suc n) = refl
bytes_fit (x ∷ xs) h (suc n) = every_cons _ x (take n xs) (lt-ltb x priority_end (omega (arith, h 0))) (bytes_fit xs (λ i. h (suc i)) n)

-- ---- what is answered

module _ (tasks regions queues : ℕ) (priorities bounds marks : List ℕ) where
  ok : Bool
  ok = configuration_in_range tasks regions queues priorities bounds marks

  table : Table
  table = fresh_table tasks regions queues priorities bounds marks

  pub fresh_some : (t : Table) → Some t ≡ then_some (configuration_in_range tasks regions queues priorities bounds marks) (fresh_table tasks regions queues priorities bounds marks)
      → record { table = t; answer = record { status = 0; value = 0; key = 0; elected = 0; displaced = nobody } } ≡ fresh tasks regions queues priorities bounds marks
  unfolding ok table fresh fresh_table
  fresh_some t h = go ok refl h
    where
      go : (b : Bool) → ok ≡ b → Some t ≡ then_some b table
          → record { table = t; answer = record { status = 0; value = 0; key = 0; elected = 0; displaced = nobody } } ≡ fresh tasks regions queues priorities bounds marks
      go true e k = let same : t ≡ table = same_Some t table k in rw (e, same) refl
      go false e k = cc

  pub fresh_none : None ≡ then_some (configuration_in_range tasks regions queues priorities bounds marks) (fresh_table tasks regions queues priorities bounds marks)
      → refused zero_table 20 ≡ fresh tasks regions queues priorities bounds marks
  unfolding ok table fresh
  fresh_none h = go ok refl h
    where
      go : (b : Bool) → ok ≡ b → None ≡ then_some b table → refused zero_table 20 ≡ fresh tasks regions queues priorities bounds marks
      go true e k = cc
      go false e k = rw e refl
