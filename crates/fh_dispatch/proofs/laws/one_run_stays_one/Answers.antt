use Rattle.fh_dispatch.proofs.Lawful.{keeps_one_run}
use Rattle.fh_dispatch.proofs.laws.one_run_stays_one.Goals as goal

pub returns : goal.returns
returns c = keeps_one_run
