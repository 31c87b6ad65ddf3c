use Rattle.std.proofs.Common.{length}
use Rattle.fh_minima.proofs.tower.+push.Given as goal

abbrev pub decreases-push : goal.decreases-push
decreases-push l = length l.above.now
