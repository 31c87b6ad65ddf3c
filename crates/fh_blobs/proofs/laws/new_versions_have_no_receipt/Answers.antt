use Rattle.fh_blobs.proofs.Lawful.{no_receipt}
use Rattle.fh_blobs.proofs.laws.new_versions_have_no_receipt.Goals as goal

pub returns : goal.returns
returns c = no_receipt
