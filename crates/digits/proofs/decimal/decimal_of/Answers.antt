-- What the fold makes is the number.
use Rattle.std.proofs.Common.{◌≡◌, ◌+◌, ◌*◌, ◌%◌, ap, ◌∙◌, rules}
use Rattle.std.specs.List.{fold}
use Rattle.digits.proofs.Folds.{decimal_folded}
use Rattle.digits.proofs.decimal.decimal_of.Goals as goal

pub returns : goal.returns
returns c =
    let all : c.fold-n.result ≡ fold (λ n b. n % 1000000000 * 10 + b % 16) 0 c.args.word.now = search rules in
    ap (λ n. n % 4294967296) (all ∙ decimal_folded 0 c.args.word.now)
