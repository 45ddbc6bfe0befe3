-- The fold's value after each number of entries is whether the tasks passed wait for nothing.
use Rattle.std.proofs.Common.{◌≡◌, true, ◌&&◌, eqb, get_or, refl, rules, tests}
use Rattle.std.proofs.lemmas.Iterator.{YieldsList-from_slice}
use Rattle.std.proofs.lemmas.Iterator.Consumers.{fold_from_yields_List}
use Rattle.std.specs.List.{fold}
use Rattle.rules.specs.Numbers.{task_room}
use Rattle.rules.specs.Words.{below, is_zero}
use Rattle.rules.specs.Urgency.{nobody_awaits}
use Rattle.rules.proofs.Folds.{fold_up}
use Rattle.urgency.proofs.waiting.nobody_awaits.Goals as goal

pub returns : goal.returns
unfolding nobody_awaits below
returns c =
    let awaits = c.args.f.now.awaits in
    let folds : c.fold.result ≡ fold (λ none entry. none && eqb entry 0) true awaits =
    fold_from_yields_List _ (λ none entry. none && eqb entry 0) true _ c.fold.ensures.ran (YieldsList-from_slice awaits (cc)) (λ a x b q h. search (rules, tests)) in
    fold_up _ (λ n. below n (λ i. is_zero (get_or awaits i 0))) 0 task_room awaits folds (search rules) refl (λ i l. refl)
