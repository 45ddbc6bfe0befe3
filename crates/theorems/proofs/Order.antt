-- Demand 3: a run is two runs side by side, tasks, timers and counter after what comes from outside, the rest after the calls; only the first
-- needs the permutation.
use Prim.Native.Nat.{◌≤◌}
use mathlib.Core.Path.{◌≡◌, refl, sym, ap, ap₂, ◌∙◌, subst, fun_ext}
use mathlib.Core.Bool.{Bool, true, false}
use mathlib.Core.List.{List, [], ◌∷◌, map, Permᴰ}
use Rattle.rules.specs.declared.Table.{Table}
use Rattle.rules.specs.declared.Call.{Call}
use Rattle.rules.specs.Numbers.{task_room}
use Rattle.rules.specs.Words.{is_zero}
use Rattle.rules.specs.Validity.{shaped, valid}
use Rattle.rules.specs.Step.{step}
use Rattle.rules.proofs.Rules.{counts_fit}
use Rattle.rules.proofs.Validity.{parts_of}
use Rattle.rules.proofs.Effects.{frame_kept}
use Rattle.theorems.specs.Happenings.{Happening, outside, own, outer_call, run, calls, outers, Reply, call_replies, status_first, outer_statuses, InTurn, Free, Agree, Demand3}
use Rattle.theorems.proofs.Kept.{valid_kept}
use Rattle.theorems.proofs.Outers.{outer_status, outer_table, outer_shaped, outer_status_lem, after_outers, outers_permuted}
use Rattle.theorems.proofs.Split.{mixed, valid_mixed, step_outer, rest_refusal, call_table, call_reply, step_call}

abbrev after_calls : Table → List Call → Table
after_calls t [] = t
after_calls t (c ∷ cs) = after_calls (call_table t c) cs

abbrev replies_of : Table → List Call → List Reply
replies_of t [] = []
replies_of t (c ∷ cs) = call_reply t c ∷ replies_of (call_table t c) cs

-- no call changes how many tasks there are
count_kept : (t : Table) (c : Call) → (call_table t c).tasks ≡ t.tasks
unfolding call_table
count_kept t c = go (is_zero (rest_refusal t c)) refl
  where
    go : (b : Bool) → is_zero (rest_refusal t c) ≡ b → (call_table t c).tasks ≡ t.tasks
    go true z = rw z (ap (λ f. f.tasks) (frame_kept t c))
    go false z = rw z

abbrev Apart : Table → Table → List Happening → Type 0
Apart k t xs =
    (run step (mixed k t) xs ≡ mixed (after_outers t.tasks k (outers xs)) (after_calls t (calls xs)))
    × (call_replies step (mixed k t) xs ≡ replies_of t (calls xs))
    × (outer_statuses step (mixed k t) xs ≡ map (outer_status t.tasks k) (outers xs))

few : (k t : Table) → valid (mixed k t) ≡ true → t.tasks ≤ task_room
few k t v = (counts_fit _ _ _ (parts_of (mixed k t) v).counts).0

apart : (xs : List Happening) (k t : Table) → shaped k ≡ true → valid (mixed k t) ≡ true → Free (calls xs) → InTurn step (mixed k t) xs → Apart k t xs
apart [] k t sh v f i = (refl, refl, refl)
apart (outside o ∷ xs) k t sh v f i =
    let n = t.tasks in
    let e = step_outer k t v o in
    let ih =
    apart xs (outer_table n k o) t (outer_shaped n (few k t v) k sh o)
    (subst (λ u. valid u ≡ true) e.0 (valid_kept (mixed k t) (outer_call o) v))
    f
    (subst (λ u. InTurn step u xs) e.0 i) in (
      ap (λ u. run step u xs) e.0 ∙ ih.0,
      ap (λ u. call_replies step u xs) e.0 ∙ ih.1,
      ap₂ (λ x l. x ∷ l) e.1
          (ap (λ u. outer_statuses step u xs) e.0 ∙ ih.2 ∙ ap (λ g. map g (outers xs)) (fun_ext (outer_status_lem n (few k t v) k sh o))),
    )
apart (own c ∷ xs) k t sh v f i =
    let e = step_call k t c f.0 v i.0 in
    let same = count_kept t c in
    let ih =
    apart xs k (call_table t c) sh
    (subst (λ u. valid u ≡ true) e.0 (valid_kept (mixed k t) c v))
    f.1
    (subst (λ u. InTurn step u xs) e.0 i.1) in (
      ap (λ u. run step u xs) e.0 ∙ ih.0 ∙ ap (λ n. mixed (after_outers n k (outers xs)) (after_calls (call_table t c) (calls xs))) same,
      ap₂ (λ x l. x ∷ l) e.1 (ap (λ u. call_replies step u xs) e.0 ∙ ih.1),
      ap (λ u. outer_statuses step u xs) e.0 ∙ ih.2 ∙ ap (λ n. map (outer_status n k) (outers xs)) same,
    )

agree : (k t : Table) (xs ys : List Happening) → shaped k ≡ true → Free (calls xs) → calls xs ≡ calls ys → Permᴰ (outers xs) (outers ys)
    → valid (mixed k t) ≡ true → InTurn step (mixed k t) xs → InTurn step (mixed k t) ys → Agree step (mixed k t) xs ys
agree k t xs ys sh f c p v i j =
    let n = t.tasks in
    let x = apart xs k t sh v f i in
    let y = apart ys k t sh v (subst Free c f) j in
    let first : outer_status n k ≡ status_first step (mixed k t) = fun_ext (λ o. sym (step_outer k t v o).1) in (
      x.0 ∙ ap₂ mixed (outers_permuted n (few k t v) p k sh) (ap (after_calls t) c) ∙ sym y.0,
      x.1 ∙ ap (replies_of t) c ∙ sym y.1,
      x.2 ∙ ap (λ g. map g (outers xs)) first,
      y.2 ∙ ap (λ g. map g (outers ys)) first,
    )

pub demand3 : Demand3
demand3 t xs ys v f c p i j =
    subst (λ u. valid u ≡ true → InTurn step u xs → InTurn step u ys → Agree step u xs ys) (sym (valid_mixed t v))
    (agree t t xs ys (parts_of t v).shape f c p)
    v
    i
    j
