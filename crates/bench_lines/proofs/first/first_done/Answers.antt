-- What comes before the counts: the characters, the length, an odd number of digits.
use Rattle.std.proofs.Common.{sym, ◌∙◌}
use Rattle.bench_lines.proofs.Plain.{first_long, first_no_digits, first_short, first_odd, line_plain, long_and_even}
use Rattle.bench_lines.proofs.first.first_done.Goals as goal
use Rattle.bench_lines.proofs.first.first_done.Goals.{then-n-gt-LONGEST-via-then-n-gt-LONGEST, then-n-gt-LONGEST-via-else-n-gt-LONGEST+then-not-all_digits, then-n-lt6-via-then-n-lt6, then-n-lt6-via-else-n-lt6+then-n-eq1}

pub returns-then-n-gt-LONGEST : goal.returns-then-n-gt-LONGEST
returns-then-n-gt-LONGEST c =
    elim c.then-n-gt-LONGEST.branch [
      | then-n-gt-LONGEST-via-then-n-gt-LONGEST w ↦ first_long c.args.line.now w.if-n-gt-LONGEST.true
      | then-n-gt-LONGEST-via-else-n-gt-LONGEST+then-not-all_digits w ↦ first_no_digits c.args.line.now (sym w.all_digits.ensures ∙ w.if-not-all_digits.true)
    ]

pub returns-then-n-lt6 : goal.returns-then-n-lt6
returns-then-n-lt6 c =
    let plain = line_plain c.args.line.now c.if-n-gt-LONGEST.false (sym c.all_digits.ensures ∙ c.if-not-all_digits.false) in
    elim c.then-n-lt6.branch [
      | then-n-lt6-via-then-n-lt6 w ↦ first_short c.args.line.now plain w.if-n-lt6.true
      | then-n-lt6-via-else-n-lt6+then-n-eq1 w ↦ first_odd c.args.line.now plain w.if-n-eq1.true
    ]

pub configured-requires-clause-plain_line : goal.configured-requires-clause-plain_line
configured-requires-clause-plain_line c = line_plain c.args.line.now c.if-n-gt-LONGEST.false (sym c.all_digits.ensures ∙ c.if-not-all_digits.false)

pub configured-requires-clause-long_and_even : goal.configured-requires-clause-long_and_even
configured-requires-clause-long_and_even c = long_and_even c.args.line.now c.if-n-lt6.false c.if-n-eq1.false
