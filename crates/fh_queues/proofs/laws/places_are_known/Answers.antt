use Rattle.fh_queues.proofs.Placing.{known}
use Rattle.fh_queues.proofs.laws.places_are_known.Goals as goal

pub returns : goal.returns
returns c = known
