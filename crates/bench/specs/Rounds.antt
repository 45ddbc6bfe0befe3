-- The rounds of the bench: a part of the input is read behind what is kept of the line that goes on, and the lines that have ended are answered.
use Rattle.std.specs.Prelude.{ℕ, ◌+◌, ◌≤◌, ◌≡◌, List, [], ◌∷◌, ◌++◌, length, take}
use Rattle.rules.specs.Words.{is_zero}
use Rattle.bench_lines.specs.declared.start.Standing.{Standing}
use Rattle.bench_lines.specs.Start.{start}
use Rattle.session.specs.Lines.{cut, answers_to, standing_after}
use Rattle.session.specs.Ending.{ending}
use Rattle.session.specs.Run.{kept}
use Rattle.bench.specs.declared.Round.{Round}
use Rattle.bench.specs.declared.Reason.{Reason}
use Rattle.bench.specs.declared.Reason.TheVariants.{Input, Output, Rounds}

-- the first n bytes of a buffer are these, and no more
pub record Holds (n : ℕ) (buffer bytes : List ℕ) : Type 0 where
  pub many : n ≡ length bytes
  pub same : take n buffer ≡ bytes

-- ---- one round: `front` is kept of a line that goes on, `part` is read behind it. Where nothing is read, the input has ended.

unfoldable pub round_standing : Standing → List ℕ → List ℕ → Standing
round_standing s front [] = s
round_standing s front (b ∷ bs) = standing_after s (cut (front ++ b ∷ bs)).lines

unfoldable pub round_left : List ℕ → List ℕ → List ℕ
round_left front [] = front
round_left front (b ∷ bs) = kept (cut (front ++ b ∷ bs)).rest

unfoldable pub round_answers : Standing → List ℕ → List ℕ → List ℕ
round_answers s front [] = ending s front
round_answers s front (b ∷ bs) = answers_to s (cut (front ++ b ∷ bs)).lines

-- what a round did, whatever part it read: the session stands, the buffer holds and the output holds what that part makes of them
pub record RoundDid (s : Standing) (front : List ℕ) (r : Round) (buffer out : List ℕ) : Type 0 where
  pub part : List ℕ
  pub ended : r.ended ≡ is_zero (length part)
  pub stands : r.standing ≡ round_standing s front part
  pub left : Holds r.kept buffer (round_left front part)
  pub answers : Holds r.written out (round_answers s front part)

-- ---- the run

abbrev pub most_rounds : ℕ
most_rounds = 18446744073709551615

-- between two rounds: session and buffer stand as all the bytes read so far make them, as if they had come at once, and each round read one
pub record Reached (s : Standing) (n : ℕ) (buffer : List ℕ) (rounds_left : ℕ) : Type 0 where
  pub read : List ℕ
  pub stands : s ≡ standing_after start (cut read).lines
  pub left : Holds n buffer (kept (cut read).rest)
  pub rounds : most_rounds ≤ length read + rounds_left

-- where the input has ended, the output holds the last answer of a run over all that was read, if there is one
abbrev pub LastAnswer : List ℕ → List ℕ → Type 0
LastAnswer read out = (n : ℕ) × Holds n out (ending (standing_after start (cut read).lines) (cut read).rest)

-- what is so where a run ends for a reason
abbrev pub Because : Reason → List ℕ → List ℕ → Type 0
Because Input read out = LastAnswer read out
Because Output read out = Unit {0}
Because Rounds read out = most_rounds ≤ length read

pub record RunEnd (why : Reason) (out : List ℕ) : Type 0 where
  pub read : List ℕ
  pub because : Because why read out
