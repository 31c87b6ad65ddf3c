use Rattle.std.proofs.Common.{length}
use Rattle.fh_minima.proofs.tower.+set.Given as goal

abbrev pub decreases-set : goal.decreases-set
decreases-set l = length l.above.now
