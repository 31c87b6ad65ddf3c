use Rattle.fh_dispatch.proofs.Lawful.{jobs_as_asked}
use Rattle.fh_dispatch.proofs.laws.jobs_are_as_asked.Goals as goal

pub returns : goal.returns
returns c = jobs_as_asked
