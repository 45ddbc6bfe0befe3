-- Demand 3 where the table stays: a program that hands a table back agrees on it whatever the arrangement; so do the rules on a table that is
-- not valid, since every call is refused with 10.
use mathlib.Core.Path.{◌≡◌, refl, sym, ap, ◌∙◌}
use mathlib.Core.Bool.{false}
use mathlib.Core.List.{List, [], ◌∷◌, map}
use Rattle.rules.specs.declared.Table.{Table}
use Rattle.rules.specs.declared.Call.{Call}
use Rattle.rules.specs.declared.Done.{Done}
use Rattle.rules.specs.Answers.{refused}
use Rattle.rules.specs.Validity.{valid}
use Rattle.rules.specs.Refusals.{reasons, refusal}
use Rattle.rules.specs.Step.{step}
use Rattle.theorems.specs.Happenings.{Happening, outside, own, outer_call, call_of, run, calls, outers, Reply, reply, call_replies, status_first, outer_statuses, Agree, Demand3Damaged}

module _ (f : Table → Call → Done) (t : Table) (back : (c : Call) → (f t c).table ≡ t) where
  run_stays : (xs : List Happening) → run f t xs ≡ t
  run_stays [] = refl
  run_stays (x ∷ xs) = ap (λ u. run f u xs) (back (call_of x)) ∙ run_stays xs

  replied : Call → Reply
  replied c = reply (f t c).answer

  replies_stay : (xs : List Happening) → call_replies f t xs ≡ map replied (calls xs)
  unfolding replied
  replies_stay [] = refl
  replies_stay (outside o ∷ xs) = ap (λ u. call_replies f u xs) (back (outer_call o)) ∙ replies_stay xs
  replies_stay (own c ∷ xs) = ap (λ u. replied c ∷ call_replies f u xs) (back c) ∙ ap (λ l. replied c ∷ l) (replies_stay xs)

  statuses_first : (xs : List Happening) → outer_statuses f t xs ≡ map (status_first f t) (outers xs)
  statuses_first [] = refl
  statuses_first (outside o ∷ xs) =
      ap (λ u. status_first f t o ∷ outer_statuses f u xs) (back (outer_call o)) ∙ ap (λ l. status_first f t o ∷ l) (statuses_first xs)
  statuses_first (own c ∷ xs) = ap (λ u. outer_statuses f u xs) (back c) ∙ statuses_first xs

  pub stays_agree : (xs ys : List Happening) → calls xs ≡ calls ys → Agree f t xs ys
  stays_agree xs ys same = (
    run_stays xs ∙ sym (run_stays ys),
    replies_stay xs ∙ ap (map replied) same ∙ sym (replies_stay ys),
    statuses_first xs,
    statuses_first ys,
  )

refused_ten : (t : Table) → valid t ≡ false → (c : Call) → step t c ≡ refused t 10
unfolding step refusal reasons
refused_ten t d c = simp d

pub demand3_damaged : Demand3Damaged
demand3_damaged t xs ys d = stays_agree step t (λ c. ap (λ r. r.table) (refused_ten t d c)) xs ys
