-- What the fold makes is the test of every character.
use Rattle.std.proofs.Common.{◌≡◌, true, ◌&&◌, ◌∙◌, rules}
use Rattle.std.proofs.lemmas.Iterator.{YieldsList-from_slice}
use Rattle.std.proofs.lemmas.Iterator.Consumers.{fold_from_yields_List}
use Rattle.std.specs.List.{fold}
use Rattle.digits.specs.Digits.{is_digit}
use Rattle.digits.proofs.Folds.{every_folded}
use Rattle.digits.proofs.read.all_digits.Goals as goal

pub returns : goal.returns
returns c =
    let s = c.args.s.now in
    let all : c.fold.result ≡ fold (λ ok b. ok && is_digit b) true s =
    fold_from_yields_List _ (λ ok b. ok && is_digit b) true _ c.fold.ensures.ran (YieldsList-from_slice s (cc)) (λ a x b q h. search rules) in
    all ∙ every_folded is_digit s
