use Rattle.fh_wire.proofs.RoundTrip.{posted_read}
use Rattle.fh_wire.proofs.laws.posted_requests_are_read.Goals as goal

pub returns : goal.returns
returns c = posted_read
