-- Laws of a log of calls: one call more, and all of them.
use Rattle.std.proofs.Common.{ℕ, zero, suc, ◌+◌, ◌*◌, ◌<◌, ◌≡◌, refl, sym, ap, ◌∙◌, Bool, List, arith, add-one, get_or, set, take, drop, drop-drop, get_or-take, get_or-drop}
use Rattle.std.specs.Simd.{first_chunks}
use Rattle.rules.specs.declared.Table.{Table}
use Rattle.rules.specs.declared.Call.{Call}
use Rattle.rules.specs.Validity.{valid}
use Rattle.rules.specs.Step.{step}
use Rattle.theorems.proofs.Kept.{valid_same}
use Rattle.packing.specs.Answers.{answer_number}
use Rattle.tables.specs.declared.front.Front.{Front}
use Rattle.tables.specs.declared.front.FrontDone.{FrontDone}
use Rattle.tables.specs.Fronts.{whole, front_done}
use Rattle.replay.specs.Log.{call_at, replayed}

-- what stands after some calls: the table, the answers, and what is known of the table
pub record Ran (t : Table) (log old : List ℕ) (known : Bool) (n : ℕ) (f : Front) (es cs answers : List ℕ) : Type 0 where
  pub table : whole f es cs ≡ (replayed t log old n).table
  pub said : answers ≡ (replayed t log old n).answers
  pub valid_is : known ≡ valid (whole f es cs)

pub ran_none : (log old : List ℕ) (known : Bool) (f : Front) (es cs : List ℕ) → known ≡ valid (whole f es cs)
    → Ran (whole f es cs) log old known 0 f es cs old
unfolding replayed
ran_none log old known f es cs v = record { table = refl; said = refl; valid_is = v }

module _ (t : Table) (log old : List ℕ) (known : Bool) (n : ℕ) (f : Front) (es cs answers : List ℕ) (r : Ran t log old known n f es cs answers)
    (k : Call) (is : k ≡ call_at log n) (d : FrontDone) (p : d ≡ front_done (step (whole f es cs) k))
    (es' : List ℕ) (q : es' ≡ (step (whole f es cs) k).table.element) (cs' : List ℕ) (s : cs' ≡ (step (whole f es cs) k).table.criterion)
    (number : ℕ) (a : number ≡ answer_number d.answer) where
  together : whole d.front es' cs' ≡ (step (whole f es cs) k).table
  together = rw (q, s, p) refl

  pub ran_again : Ran t log old known (n + 1) d.front es' cs' (set answers n number)
  unfolding replayed
  ran_again =
      rw add-one
      (record {
        table = together ∙ rw (r.table, is) refl;
        said = rw (a, p, r.said, r.table, is) refl;
        valid_is = r.valid_is ∙ sym (ap valid together ∙ valid_same (whole f es cs) k);
      })

-- five numbers of a log, cut out of it
chunk_at : (log : List ℕ) (m i : ℕ) (d : List ℕ) → i < m → get_or (first_chunks 5 m log) i d ≡ take 5 (drop (5 * i) log)
chunk_at log zero i d h = absurd (omega arith)
chunk_at log (suc m) zero d h = refl
chunk_at log (suc m) (suc i) d h =
    let e : 5 + 5 * i ≡ 5 * suc i = omega arith in
    chunk_at (drop 5 log) m i d (omega arith) ∙ ap (take 5) (drop-drop (5 * i) 5 log ∙ ap (λ (k : ℕ). drop k log) e)

-- the call that they are
pub call_there : (log : List ℕ) (m i : ℕ) (d : List ℕ) → i < m → call_at (get_or (first_chunks 5 m log) i d) 0 ≡ call_at log i
call_there log m i d h =
    let part : (k : ℕ) → k < 5 → get_or (take 5 (drop (5 * i) log)) k 0 ≡ get_or log (5 * i + k) 0 =
    λ k l. rw (get_or-take 5 (drop (5 * i) log) k 0 l, get_or-drop) refl
    in
    let z : 5 * i + 0 ≡ 5 * i = omega arith in
    let first : get_or (take 5 (drop (5 * i) log)) 0 0 ≡ get_or log (5 * i) 0 = rw z at (part 0 (omega arith)) in
    let second = part 1 (omega arith) in
    let third = part 2 (omega arith) in
    let fourth = part 3 (omega arith) in
    let fifth = part 4 (omega arith) in
    rw (chunk_at log m i d h, first, second, third, fourth, fifth) refl
