use Rattle.fh_hub.proofs.Rising.{rises_over}
use Rattle.fh_hub.proofs.laws.receipts_only_rise.Goals as goal

pub returns : goal.returns
returns c = rises_over
