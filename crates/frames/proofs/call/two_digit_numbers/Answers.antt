-- Each number is that of its two digits.
use Rattle.std.proofs.Common.{rules, ◌+◌, ◌≡◌, suc, arith}
use Rattle.frames.specs.TwoDigits.{step_bytes, two_digits_at}
use Rattle.frames.proofs.TwoDigits.{made_by}
use Rattle.frames.proofs.call.two_digit_numbers.Goals as goal

pub returns : goal.returns
returns c = made_by _ (two_digits_at c.args.s.now) _ (λ i y q h. let next : i + 1 ≡ suc i = omega arith in search rules) step_bytes _ c.from_fn.ensures.items
