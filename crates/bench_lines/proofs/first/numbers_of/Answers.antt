-- The array so far holds the numbers passed and zeros.
use Rattle.std.proofs.Common.{rules, ◌/◌, ◌<◌, length, arith}
use Rattle.tables.proofs.Fills.{filled}
use Rattle.bench_lines.proofs.Configuration.{numbers_again, numbers_end, pair_number}
use Rattle.bench_lines.proofs.first.numbers_of.Goals as goal

pub loop-i-init : goal.loop-i-init
unfolding filled
loop-i-init c = search rules

pub loop-i-preserved : goal.loop-i-preserved
loop-i-preserved c =
    let inside : c.loop-i.i < length c.args.line.now / 2 = omega (arith, c.loop-i-test.true, c.as_chunks.ensures.front_len) in
    let number = pair_number c.args.line.now c.as_chunks.result.0.now c.as_chunks.ensures.front c.loop-i.i c.two_digits_of.result inside c.two_digits_of.ensures in
    numbers_again _ _ _ _ c.loop-i.invariant number inside c.requires

pub returns : goal.returns
returns c = numbers_end _ _ _ c.loop-i.invariant (omega (arith, c.loop-i.auto.i-end, c.as_chunks.ensures.front_len)) (omega (arith, c.loop-i-test.false, c.as_chunks.ensures.front_len))
