use Rattle.fh_queues.proofs.Lawful.{takes_few}
use Rattle.fh_queues.proofs.laws.takes_list_few.Goals as goal

pub returns : goal.returns
returns c = takes_few
