use Rattle.fh_dispatch.proofs.Lawful.{keeps_other_jobs}
use Rattle.fh_dispatch.proofs.laws.other_jobs_stay.Goals as goal

pub returns : goal.returns
returns c = keeps_other_jobs
