use Rattle.fh_minima.specs.Tower.{AreAbove}
use Rattle.fh_minima.proofs.level.Level.scan.Given as goal

abbrev pub invariant-loop-place : goal.invariant-loop-place
invariant-loop-place l = AreAbove l.self l.from l.place l.most
