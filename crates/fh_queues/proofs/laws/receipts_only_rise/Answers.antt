use Rattle.fh_queues.proofs.Lawful.{raises_receipts}
use Rattle.fh_queues.proofs.laws.receipts_only_rise.Goals as goal

pub returns : goal.returns
returns c = raises_receipts
