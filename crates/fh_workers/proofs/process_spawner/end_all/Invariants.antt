use Rattle.std.proofs.Common.{length}
use Rattle.fh_workers.proofs.process_spawner.end_all.Given as goal

abbrev pub decreases-loop-worker : goal.decreases-loop-worker
decreases-loop-worker g l = length l.workers.items
