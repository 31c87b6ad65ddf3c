use Rattle.fh_sample.proofs.Connections.{accepts_one, accepts_up_to_one}
use Rattle.fh_sample.proofs.worker.make_round.Goals as goal

pub returns-then-eq-clause-makes : goal.returns-then-eq-clause-makes
returns-then-eq-clause-makes g c = accepts_up_to_one _ _ _ _ c.in-Ok.ensures.accepted

pub returns-clause-makes : goal.returns-clause-makes
returns-clause-makes g c = accepts_one _ _ _ _ c.in-Ok.ensures.accepted
