-- The election in words of every ready task: who wins, that nobody else does, and that it is 255 exactly if none is ready.
use Prim.Native.Nat.{ℕ, zero, suc, ◌+◌, ◌<◌, ◌≤◌, min}
use mathlib.Core.Path.{◌≡◌, refl, sym, ap, ◌∙◌}
use mathlib.Core.Logic.{◌≢◌, ◌↔◌, ◌⊎◌, inl, inr, ⊎_elim}
use mathlib.Core.Bool.{Bool, true, false, cond, not, ◌&&◌, and-false, false≢true}
use mathlib.Core.List.{List}
use native.Mathlib.Omega.{arith}
use native.Mathlib.Numerals.{add-one}
use lib.Dec.{eqb, ltb}
use borrow.Author.Tests.{eqb-true, eqb-false, eq-eqb, ne_eqb, ltb-true, ltb-false, not-true}
use Rattle.rules.specs.Numbers.{task_room, priority_end, nobody}
use Rattle.rules.specs.Words.{is_zero}
use Rattle.rules.specs.Regions.{held, occupied, holder_of}
use Rattle.rules.specs.Election.{smallest, lowest, ready_at, priority_at, is_best, best_ready, election, displaced_by, elect, Ready, Wins, elected_by, elect_by}
use Rattle.rules.proofs.Counts.{at_end}
use Rattle.rules.proofs.Bools.{and_left, and_right, both}

-- ---- the smallest priority number, and the lowest number, over any test and any width

module _ (passes : ℕ → Bool) (priority : ℕ → ℕ) where
  pub smallest_le : (n i : ℕ) → i < n → passes i ≡ true → smallest n passes priority ≤ priority i
  unfolding smallest
  smallest_le zero i l h = absurd (omega arith)
  smallest_le (suc n) i l h = go (eqb i n) refl (smallest_le n i)
    where
      at_most : smallest (suc n) passes priority ≤ smallest n passes priority
      at_most = step (passes n) refl
        where
          step : (b : Bool) → passes n ≡ b → smallest (suc n) passes priority ≤ smallest n passes priority
          step true e = rw e (omega arith)
          step false e = rw e (omega arith)

      go : (b : Bool) → eqb i n ≡ b → (i < n → passes i ≡ true → smallest n passes priority ≤ priority i)
          → smallest (suc n) passes priority ≤ priority i
      go true e ih = let same = eqb-true i n e in rw (rw same at h, same) (omega arith)
      go false e ih =
          let other : i ≢ n = eqb-false i n e in
          let below = ih (omega arith) h in
          let less = at_most in
          omega arith

  -- one that passes has it, unless it is past every priority
  pub smallest_had : (n : ℕ)
      → (smallest n passes priority ≡ priority_end)
      ⊎ ((i : ℕ) × (i < n) × (passes i ≡ true) × (priority i ≡ smallest n passes priority))
  unfolding smallest
  smallest_had zero = inl refl
  smallest_had (suc n) = go (passes n) (ltb (priority n) (smallest n passes priority)) refl refl (smallest_had n)
    where
      Had : ℕ → Type 0
      Had m =
          (smallest m passes priority ≡ priority_end)
          ⊎ ((i : ℕ) × (i < m) × (passes i ≡ true) × (priority i ≡ smallest m passes priority))

      go : (b c : Bool) → passes n ≡ b → ltb (priority n) (smallest n passes priority) ≡ c → Had n → Had (suc n)
      go false c e f (inl p) = rw e (inl p)
      go false c e f (inr q) = rw e (inr (q.0, omega arith, q.2, q.3))
      go true true e f h = let l = ltb-true (priority n) (smallest n passes priority) f in rw e (inr (n, omega arith, e, omega arith))
      go true false e f (inl p) = let l = ltb-false (priority n) (smallest n passes priority) f in rw e (inl (omega arith))
      go true false e f (inr q) =
          let l = ltb-false (priority n) (smallest n passes priority) f in
          let same : priority q.0 ≡ min (priority n) (smallest n passes priority) = q.3 ∙ omega arith in
          rw e (inr (q.0, omega arith, q.2, same))

-- one number more, as a loop counts
pub smallest_again : (i : ℕ) (passes : ℕ → Bool) (priority : ℕ → ℕ) (p r : ℕ) → p ≡ smallest i passes priority
    → r ≡ cond (passes i) (min (priority i) p) p → r ≡ smallest (i + 1) passes priority
unfolding smallest
smallest_again i passes priority p r e h = rw add-one (rw e at h)

pub smallest_end : (i n : ℕ) (passes : ℕ → Bool) (priority : ℕ → ℕ) (p : ℕ) → p ≡ smallest i passes priority → i ≤ n → n ≤ i
    → p ≡ smallest n passes priority
smallest_end i n passes priority p e l k = at_end (λ m. smallest m passes priority) i n e l k

-- what the lowest number that passes is
pub record Lowest (n : ℕ) (passes : ℕ → Bool) : Type 0 where
  pub below : lowest n passes < n
  pub passing : passes (lowest n passes) ≡ true
  pub least : (i : ℕ) → passes i ≡ true → lowest n passes ≤ i

-- as the count goes on: still none, found here, found before
module _ (passes : ℕ → Bool) (n : ℕ) where
  lowest_none : lowest n passes ≡ nobody → passes n ≡ false → lowest (suc n) passes ≡ nobody
  unfolding lowest
  lowest_none e h = simp (e, h)

  lowest_here : lowest n passes ≡ nobody → passes n ≡ true → lowest (suc n) passes ≡ n
  unfolding lowest
  lowest_here e h = simp (e, h)

  lowest_kept : lowest n passes ≢ nobody → lowest (suc n) passes ≡ lowest n passes
  unfolding lowest
  lowest_kept h = rw (ne_eqb (lowest n passes) nobody h)

-- it is nobody where none passes, else the lowest that does
pub lowest_is : (passes : ℕ → Bool) (n : ℕ) → n ≤ nobody
    → ((lowest n passes ≡ nobody) × ((i : ℕ) → i < n → passes i ≡ false)) ⊎ Lowest n passes
unfolding lowest
lowest_is passes zero w = inl (refl, λ i l. absurd (omega arith))
lowest_is passes (suc n) w = go (passes n) refl (lowest_is passes n (omega arith))
  where
    go : (b : Bool) → passes n ≡ b → ((lowest n passes ≡ nobody) × ((i : ℕ) → i < n → passes i ≡ false)) ⊎ Lowest n passes
        → ((lowest (suc n) passes ≡ nobody) × ((i : ℕ) → i < suc n → passes i ≡ false)) ⊎ Lowest (suc n) passes
    go b e (inr k) =
        let same = lowest_kept passes n (let l = k.below in omega arith) in
        inr (record { below = rw same (let l = k.below in omega arith); passing = rw same k.passing; least = λ i h. rw same (k.least i h) })
    go true e (inl k) =
        let same = lowest_here passes n k.0 e in
        inr (record { below = rw same (omega arith); passing = rw same e; least = λ i h. rw same (later i h (ltb i n) refl) })
      where
        later : (i : ℕ) → passes i ≡ true → (c : Bool) → ltb i n ≡ c → n ≤ i
        later i h true f = absurd (false≢true (sym (k.1 i (ltb-true i n f)) ∙ h))
        later i h false f = ltb-false i n f
    go false e (inl k) = inl (lowest_none passes n k.0 e, λ i l. none i l (eqb i n) refl)
      where
        none : (i : ℕ) → i < suc n → (c : Bool) → eqb i n ≡ c → passes i ≡ false
        none i l true f = rw (eqb-true i n f) e
        none i l false f = let other : i ≢ n = eqb-false i n f in k.1 i (omega arith)

-- ---- the words

-- nobody else wins
pub wins_alone : (states priorities : List ℕ) (v w : ℕ) → Wins states priorities v → Wins states priorities w → v ≡ w
wins_alone states priorities v w a b =
    ⊎_elim (λ x. ⊎_elim (λ y. omega arith) (λ y. omega arith) (b.first v a.ready))
    (λ x. ⊎_elim (λ y. omega arith) (λ y. omega arith) (b.first v a.ready))
    (a.first w b.ready)

module _ (states priorities : List ℕ) (small : (i : ℕ) → i < task_room → priority_at priorities i < priority_end) where
  least : ℕ
  least = smallest task_room (ready_at states) (priority_at priorities)

  -- where a task is ready, a ready task has the smallest priority number
  had : (i : ℕ) → Ready states i → (k : ℕ) × (k < task_room) × (is_best states priorities k ≡ true)
  unfolding least is_best
  had i h =
      ⊎_elim
      (λ p.
      let l = smallest_le (ready_at states) (priority_at priorities) task_room i h.0 h.1 in
      let s = small i h.0 in
      absurd (omega arith))
      (λ q. (q.0, q.1, both q.2 (eq-eqb _ _ q.3)))
      (smallest_had (ready_at states) (priority_at priorities) task_room)

  -- where any task is ready, the best one wins
  pub best_wins : (i : ℕ) → Ready states i → Wins states priorities (best_ready states priorities)
  unfolding best_ready is_best least
  best_wins i h =
      ⊎_elim (λ q. let k = had i h in absurd (false≢true (sym (q.1 k.0 k.1) ∙ k.2))) wins
      (lowest_is (is_best states priorities) task_room (omega arith))
    where
      w : ℕ
      w = lowest task_room (is_best states priorities)

      wins : Lowest task_room (is_best states priorities) → Wins states priorities w
      wins q = record { ready = (q.below, and_left _ _ q.passing); first = λ k r. compare k r (eqb (priority_at priorities k) least) refl }
        where
          same : priority_at priorities w ≡ least
          same = eqb-true _ _ (and_right (ready_at states w) _ q.passing)

          compare : (k : ℕ) → Ready states k → (b : Bool) → eqb (priority_at priorities k) least ≡ b
              → (priority_at priorities w < priority_at priorities k) ⊎ ((priority_at priorities w ≡ priority_at priorities k) × (w ≤ k))
          compare k r true e = inr (same ∙ sym (eqb-true _ _ e), q.least k (both r.1 e))
          compare k r false e =
              let l = smallest_le (ready_at states) (priority_at priorities) task_room k r.0 r.1 in
              let n : priority_at priorities k ≢ least = eqb-false _ _ e in
              let s = same in
              inl (omega arith)

  -- "255, exactly if no task is ready"
  pub best_nobody : (best_ready states priorities ≡ nobody) ↔ ((i : ℕ) → i < task_room → ready_at states i ≡ false)
  unfolding best_ready is_best
  best_nobody = (λ e i l. none e i l (ready_at states i) refl, nobody_then)
    where
      none : lowest task_room (is_best states priorities) ≡ nobody → (i : ℕ) → i < task_room → (b : Bool) → ready_at states i ≡ b → b ≡ false
      none e i l true h = let k = (best_wins i (l, h)).ready.0 in let k' : nobody < task_room = rw e at k in absurd (omega arith)
      none e i l false h = refl

      nobody_then : ((i : ℕ) → i < task_room → ready_at states i ≡ false) → lowest task_room (is_best states priorities) ≡ nobody
      nobody_then h =
          ⊎_elim (λ q. q.0)
          (λ q. absurd (false≢true (sym (h _ q.below) ∙ and_left _ _ q.passing)))
          (lowest_is (is_best states priorities) task_room (omega arith))

-- ---- the holder first, then the best ready task; states, priorities and holders are all that it reads

pub election_held : (states priorities holders : List ℕ) → occupied holders ≡ true → election states priorities holders ≡ holder_of holders
unfolding election
election_held states priorities holders h = rw h

pub election_free : (states priorities holders : List ℕ) → occupied holders ≡ false
    → election states priorities holders ≡ best_ready states priorities
unfolding election
election_free states priorities holders h = rw h

pub election_by : (states priorities holders : List ℕ) → elected_by (held holders) states priorities ≡ election states priorities holders
unfolding election elected_by
election_by states priorities holders = go (is_zero (held holders)) refl
  where
    go : (b : Bool) → is_zero (held holders) ≡ b → elected_by (held holders) states priorities ≡ election states priorities holders
    go true e = rw e
    go false e = rw e

pub elect_by_lem : (former : ℕ) (states priorities holders : List ℕ)
    → elect_by former (held holders) states priorities ≡ elect former states priorities holders
elect_by_lem former states priorities holders =
    ap (λ who. record { task = who; displaced = displaced_by former states who }) (election_by states priorities holders)

-- ---- who is displaced, whoever was elected before

module _ (former : ℕ) (states : List ℕ) (who : ℕ) where
  abbrev aside : Bool
  aside = ready_at states former && not (eqb former who)

  pub displaced_given : displaced_by former states who ≢ nobody
      → (former ≡ displaced_by former states who) × (ready_at states (displaced_by former states who) ≡ true) × (who ≢ displaced_by former states who)
  unfolding displaced_by
  displaced_given n = go aside refl
    where
      go : (b : Bool) → aside ≡ b → (former ≡ cond aside former nobody) × (ready_at states (cond aside former nobody) ≡ true) × (who ≢ cond aside former nobody)
      go true e = rw e (refl, and_left _ _ e, λ same. eqb-false former who (not-true _ (and_right (ready_at states former) _ e)) (sym same))
      go false e = absurd (n (rw e refl))

  pub unready_undisplaced : ready_at states former ≡ false → displaced_by former states who ≡ nobody
  unfolding displaced_by
  unready_undisplaced e = rw e refl

  pub same_undisplaced : who ≡ former → displaced_by former states who ≡ nobody
  unfolding displaced_by
  same_undisplaced e = rw (eq-eqb former who (sym e), and-false) refl

  pub other_displaced : who ≢ former → ready_at states former ≡ true → displaced_by former states who ≡ former
  unfolding displaced_by
  other_displaced n e = rw (e, ne_eqb former who (λ same. n (sym same))) refl
