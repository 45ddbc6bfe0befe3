-- In each turn the reader keeps its log and moves behind a line, so that one line fewer is still to be walked over.
use Rattle.std.proofs.Common.{◌≡◌, ℕ, suc, ◌-◌, ◌+◌, ◌<◌, List, drop, ap, ◌∙◌, arith}
use Rattle.lines.specs.Ends.{line_at}
use Rattle.lines.specs.Reading.{place_after, behind_line, behind_lines}
use Rattle.lines.proofs.Behind.{behind_line_lem, behind_more}
use Rattle.lines.proofs.reader.walked_over.Goals as goal

-- a turn, at the log s of the reader before it and the log s' of the walk: at, at' are the places before and behind the turn, i the turns made
turn : (s s' : List ℕ) (n i at at' : ℕ) → s ≡ s' → i < n → at' ≡ place_after s (line_at s at) → behind_lines (n - i) (drop at s') ≡ behind_lines n s'
    → behind_lines (n - (i + 1)) (drop at' s') ≡ behind_lines n s'
turn s s' n i at at' same h moved k =
    let next : drop at' s ≡ behind_line (drop at s) = ap (λ (a : ℕ). drop a s) moved ∙ behind_line_lem s at in
    let one : n - i ≡ suc (n - (i + 1)) = omega arith in
    behind_more (n - (i + 1)) (drop at s') (drop at' s') (behind_lines n s') (rw same at next) (rw one at k)

pub loop-preserved : goal.loop-preserved
loop-preserved c =
    let log : c.next_line.new.r.log.now ≡ c.args.log.now = cc in
    (log, turn c.loop.reader.log.now c.args.log.now c.args.n c.loop.counter c.loop.reader.at c.next_line.new.r.at c.loop.invariant.0 c.loop-test.true c.next_line.ensures.2 c.loop.invariant.1)
