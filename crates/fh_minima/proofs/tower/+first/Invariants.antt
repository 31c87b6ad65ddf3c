use Rattle.std.proofs.Common.{length, ◌≤◌, ◌-◌}
use Rattle.fh_minima.specs.Tower.{AreAbove}
use Rattle.fh_minima.proofs.tower.+first.Given as goal

abbrev pub decreases-first : goal.decreases-first
decreases-first l = length l.above.now

abbrev pub invariant-loop-place : goal.invariant-loop-place
invariant-loop-place l = record {
  low : l.from ≤ l.start;
  high : l.start ≤ length l.keys;
  above : AreAbove l.keys l.from l.start l.most;
}

abbrev pub decreases-loop-place : goal.decreases-loop-place
decreases-loop-place l = length l.keys - l.start
