-- The fold's value after each number of tasks is the word of those.
use Rattle.std.proofs.Common.{ℕ, ◌≡◌, ◌&&◌, cond, eqb, ◌^◌, bit_or, refl, ap, ◌∙◌, rules, tests}
use Rattle.std.specs.List.{fold, zip, enumerate_from}
use Rattle.std.proofs.lemmas.Iterator.{YieldsList-from_slice, YieldsList-from_zip}
use Rattle.std.proofs.lemmas.Iterator.Consumers.{fold_from_yields_List, YieldsList-from_enumerate, YieldsList-at}
use Rattle.std.proofs.lemmas.List.FromFn.{length-enumerate_from}
use Rattle.rules.specs.Numbers.{task_room}
use Rattle.rules.specs.Tasks.{ready}
use Rattle.rules.specs.Election.{ready_at, priority_at}
use Rattle.election.specs.Words.{word}
use Rattle.rules.proofs.Folds.{fold_up, numbered_at, zip_length}
use Rattle.election.proofs.ready_word.Goals as goal

-- the word with the bit of one task more
abbrev next : ℕ → ℕ → ℕ × (ℕ × ℕ) → ℕ
next p w task = bit_or w (cond (eqb task.1.0 ready && eqb task.1.1 p) (2 ^ task.0) 0)

pub returns : goal.returns
unfolding word
returns c =
    let states = c.args.state.now in
    let priorities = c.args.priority.now in
    let tasks = enumerate_from 0 (zip states priorities) in
    let folds : c.fold.result ≡ fold (next c.args.p) 0 tasks =
    fold_from_yields_List _ (next c.args.p) 0 _ c.fold.ensures.ran
    (YieldsList-from_enumerate (YieldsList-at c.enumerate.ensures.source (YieldsList-from_zip (YieldsList-from_slice states (cc)) (YieldsList-from_slice priorities (cc)))) c.enumerate.ensures.count)
    (λ a x b q h. search (rules, tests)) in
    fold_up (next c.args.p) (λ n. word n (λ i. ready_at states i && eqb (priority_at priorities i) c.args.p)) (0, (0, 0)) task_room tasks folds
    (length-enumerate_from 0 (zip states priorities) ∙ zip_length 0 0 task_room states priorities (search rules) (search rules)) refl
    (λ i l. ap (next _ _) (numbered_at 0 0 states priorities i (search rules) (search rules)))
