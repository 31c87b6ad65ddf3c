use Rattle.fh_wire.proofs.RoundTrip.{answered_read}
use Rattle.fh_wire.proofs.laws.written_responses_are_read.Goals as goal

pub returns : goal.returns
returns c = λ status body code few. answered_read status body code.0 code.1 few
