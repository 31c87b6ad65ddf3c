use Rattle.std.proofs.Common.{◌-◌, ◌≤◌, length}
use Rattle.fh_blobs.specs.Ahead.{AreAlike}
use Rattle.fh_blobs.proofs.ahead.noted_first.Given as goal

abbrev pub invariant-loop-low : goal.invariant-loop-low
invariant-loop-low l = record {
  order : l.low ≤ l.high;
  blobs : l.high ≤ length l.blobs;
  marks : l.high ≤ length l.marks;
  alike : AreAlike l.blobs l.marks l.low;
}

abbrev pub decreases-loop-low : goal.decreases-loop-low
decreases-loop-low l = l.high - l.low
