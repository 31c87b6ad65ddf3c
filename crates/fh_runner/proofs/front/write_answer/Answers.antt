use Rattle.fh_runner.proofs.Ways.{as_pair}
use Rattle.fh_runner.proofs.front.write_answer.Goals as goal

pub returns-clause-writes : goal.returns-clause-writes
returns-clause-writes g c =
    as_pair _ _ _ _ _ _ _ c.in-Ok.ensures c.as_slice.ensures.value c.write_response.ensures.written c.write_response.ensures.cause
