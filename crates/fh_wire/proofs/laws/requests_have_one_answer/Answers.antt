use Rattle.fh_wire.proofs.OneAnswer.{one_request}
use Rattle.fh_wire.proofs.laws.requests_have_one_answer.Goals as goal

pub returns : goal.returns
returns c = one_request
