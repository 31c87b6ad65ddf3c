use Rattle.fh_sample.proofs.Answering.{writes_sample}
use Rattle.fh_sample.proofs.turn.respond.Goals as goal

pub returns-clause-writes : goal.returns-clause-writes
returns-clause-writes g c =
    writes_sample _ _ _ _ c.as_bytes.ensures.value c.write_response.ensures.written c.write_response.ensures.cause
