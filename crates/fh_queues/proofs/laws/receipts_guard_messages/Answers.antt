use Rattle.fh_queues.proofs.Lawful.{keeps_untouched}
use Rattle.fh_queues.proofs.laws.receipts_guard_messages.Goals as goal

pub returns : goal.returns
returns c = keeps_untouched
