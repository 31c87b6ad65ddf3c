use Rattle.fh_ncrontab.proofs.PartLemmas.{pieces-cut, pieces-whole}
use Rattle.fh_ncrontab.proofs.part.first_piece.Goals as goal

pub returns-in-Some-clause-pieces : goal.returns-in-Some-clause-pieces
returns-in-Some-clause-pieces c = (pieces-cut _ _ _ _ c.in-Some.ensures).0

pub returns-in-None-clause-pieces : goal.returns-in-None-clause-pieces
returns-in-None-clause-pieces c = pieces-whole _ _ c.in-None.ensures
