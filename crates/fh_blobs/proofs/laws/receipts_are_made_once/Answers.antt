use Rattle.fh_blobs.proofs.Lawful.{made_once}
use Rattle.fh_blobs.proofs.laws.receipts_are_made_once.Goals as goal

pub returns : goal.returns
returns c = made_once
