-- What has been read stands at the buffer's front, and the input begins with it; the measure is the room that is left.
use Rattle.std.proofs.Common.{◌≤◌, length, ◌-◌, take}
use Rattle.std.specs.Io.KnownBytes.{Consumes}
use Rattle.texts.proofs.read.read_whole.Given as goal

abbrev pub invariant-loop-n : goal.invariant-loop-n
invariant-loop-n g l =
    record {
      inside : l.end ≤ length l.buffer;
      read : Consumes (g.R.Read.remaining l.initial.input) (g.R.Read.remaining l.input) (take l.end l.buffer);
    }

abbrev pub decreases-loop-n : goal.decreases-loop-n
decreases-loop-n g l = length l.initial.buffer - l.end
