use Rattle.fh_queues.proofs.Lawful.{moves_little}
use Rattle.fh_queues.proofs.laws.counters_move_little.Goals as goal

pub returns : goal.returns
returns c = moves_little
