use Rattle.fh_dispatch.proofs.Lawful.{brings_no_others}
use Rattle.fh_dispatch.proofs.laws.other_asks_bring_no_jobs.Goals as goal

pub returns : goal.returns
returns c = brings_no_others
