use Rattle.fh_queues.proofs.Telling.{tells}
use Rattle.fh_queues.proofs.laws.messages_are_as_told.Goals as goal

pub returns : goal.returns
returns c = tells
