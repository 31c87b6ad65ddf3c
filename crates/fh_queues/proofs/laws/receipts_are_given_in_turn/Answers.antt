use Rattle.fh_queues.proofs.Lawful.{gives_receipts}
use Rattle.fh_queues.proofs.laws.receipts_are_given_in_turn.Goals as goal

pub returns : goal.returns
returns c = gives_receipts
