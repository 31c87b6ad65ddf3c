use Rattle.fh_timers.proofs.Lawful.{runs_where_idle}
use Rattle.fh_timers.proofs.laws.runs_are_made_where_none_is.Goals as goal

pub returns : goal.returns
returns c = runs_where_idle
