-- The fold's value after each number of tasks is the smallest priority number of those.
use Rattle.std.proofs.Common.{ℕ, ◌≡◌, min, refl, ap, ◌∙◌, rules, tests}
use Rattle.std.specs.List.{fold, zip}
use Rattle.std.proofs.lemmas.Iterator.{YieldsList-from_slice, YieldsList-from_zip}
use Rattle.std.proofs.lemmas.Iterator.Consumers.{fold_from_yields_List}
use Rattle.rules.specs.Numbers.{task_room, priority_end}
use Rattle.rules.specs.Election.{smallest, ready_at, priority_at}
use Rattle.election.specs.Ranks.{rank_of}
use Rattle.rules.proofs.Folds.{fold_up, zip_at, zip_length}
use Rattle.election.proofs.Ranks.{smallest_ranked}
use Rattle.election.proofs.smallest_of.Goals as goal

-- the smaller of a task's rank and the least before it
abbrev next : ℕ → ℕ × ℕ → ℕ
next least task = min (rank_of task.0 task.1) least

pub returns : goal.returns
unfolding smallest
returns c =
    let states = c.args.state.now in
    let priorities = c.args.priority.now in
    let tasks = zip states priorities in
    let folds : c.fold.result ≡ fold next priority_end tasks =
    fold_from_yields_List _ next priority_end _ c.fold.ensures.ran (YieldsList-from_zip (YieldsList-from_slice states (cc)) (YieldsList-from_slice priorities (cc))) (λ a x b q h. search (rules, tests)) in
    fold_up next (λ n. smallest n (ready_at states) (priority_at priorities)) (0, 0) task_room tasks folds (zip_length 0 0 task_room states priorities (search rules) (search rules)) refl
    (λ i l. ap (next _) (zip_at 0 0 states priorities i (search rules) (search rules)) ∙ smallest_ranked states priorities i)
