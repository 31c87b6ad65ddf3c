use Rattle.fh_dispatch.proofs.Lawful.{as_configured}
use Rattle.fh_dispatch.proofs.laws.functions_are_as_configured.Goals as goal

pub returns : goal.returns
returns c = as_configured
