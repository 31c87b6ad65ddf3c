use Rattle.fh_minima.specs.Tower.{IsLeastFrom}
use Rattle.fh_minima.proofs.level.Level.least.Given as goal

abbrev pub invariant-loop-place : goal.invariant-loop-place
invariant-loop-place l = IsLeastFrom l.self l.from l.place l.least
