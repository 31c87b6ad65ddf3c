use Rattle.fh_hub.proofs.Noting.{noted_once}
use Rattle.fh_hub.proofs.laws.versions_are_noted_once.Goals as goal

pub returns : goal.returns
returns c = noted_once
