use Rattle.fh_queues.proofs.Lawful.{goes_as_answered}
use Rattle.fh_queues.proofs.laws.messages_go_on_as_answered.Goals as goal

pub returns : goal.returns
returns c = goes_as_answered
