use Rattle.fh_dispatch.proofs.Lawful.{asks_as_it_says}
use Rattle.fh_dispatch.proofs.laws.queues_are_asked_as_said.Goals as goal

pub returns : goal.returns
returns c = asks_as_it_says
