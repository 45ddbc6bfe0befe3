-- Each test that fails refuses the line with its number; where none fails, bounds and marks decide.
use Rattle.std.proofs.Common.{◌∙◌, arith}
use Rattle.bench_lines.proofs.Plain.{plain_short}
use Rattle.bench_lines.proofs.Configuration.{array_long, counts_small, counts_refuse, length_refuses, accepted}
use Rattle.bench_lines.proofs.first.configured.Goals as goal

pub numbers_of-numbers-requires : goal.numbers_of-numbers-requires
numbers_of-numbers-requires c = plain_short _ c.requires.plain_line

pub returns-then-not-counts_right : goal.returns-then-not-counts_right
returns-then-not-counts_right c =
    counts_refuse _ _ c.numbers_of-numbers.ensures c.requires.plain_line c.requires.long_and_even _ c.counts_right.ensures c.if-not-counts_right.true

pub overflow_add-bounds : goal.overflow_add-bounds
overflow_add-bounds c =
    let s = counts_small _ _ c.numbers_of-numbers.ensures c.requires.plain_line c.requires.long_and_even _ c.counts_right.ensures c.if-not-counts_right.false in
    record { fits = omega arith }

pub overflow_add-marks : goal.overflow_add-marks
overflow_add-marks c =
    let s = counts_small _ _ c.numbers_of-numbers.ensures c.requires.plain_line c.requires.long_and_even _ c.counts_right.ensures c.if-not-counts_right.false in
    record { fits = omega arith }

pub overflow_add-end : goal.overflow_add-end
overflow_add-end c =
    let s = counts_small _ _ c.numbers_of-numbers.ensures c.requires.plain_line c.requires.long_and_even _ c.counts_right.ensures c.if-not-counts_right.false in
    record { fits = omega arith }

pub overflow_mul-digits : goal.overflow_mul-digits
overflow_mul-digits c =
    let s = counts_small _ _ c.numbers_of-numbers.ensures c.requires.plain_line c.requires.long_and_even _ c.counts_right.ensures c.if-not-counts_right.false in
    record { fits = omega arith }

pub returns-then-line-digits : goal.returns-then-line-digits
returns-then-line-digits c =
    length_refuses _ _ c.numbers_of-numbers.ensures c.requires.plain_line c.requires.long_and_even _ c.counts_right.ensures c.if-not-counts_right.false (rw (c.from-bounds.ensures, c.from.ensures, c.from-2.ensures) at c.if-line-digits.true)

pub fresh_from-requires : goal.fresh_from-requires
fresh_from-requires c =
    let s = counts_small _ _ c.numbers_of-numbers.ensures c.requires.plain_line c.requires.long_and_even _ c.counts_right.ensures c.if-not-counts_right.false in
    let l = array_long _ _ c.numbers_of-numbers.ensures c.requires.plain_line in
    (omega arith, omega arith, omega arith, omega arith)

pub returns : goal.returns
returns c =
    rw (c.from-bounds.ensures, c.from.ensures, c.from-2.ensures) at c.fresh_from.ensures
    ∙ accepted _ _ c.numbers_of-numbers.ensures c.requires.plain_line c.requires.long_and_even _ c.counts_right.ensures c.if-not-counts_right.false (rw (c.from-bounds.ensures, c.from.ensures, c.from-2.ensures) at c.if-line-digits.false)
