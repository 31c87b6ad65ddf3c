use Rattle.fh_hub.proofs.Guarding.{all_guard}
use Rattle.fh_hub.proofs.laws.receipts_guard_messages.Goals as goal

pub returns : goal.returns
returns c = all_guard
