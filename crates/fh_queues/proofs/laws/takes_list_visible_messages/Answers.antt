use Rattle.fh_queues.proofs.Lawful.{takes_visible}
use Rattle.fh_queues.proofs.laws.takes_list_visible_messages.Goals as goal

pub returns : goal.returns
returns c = takes_visible
