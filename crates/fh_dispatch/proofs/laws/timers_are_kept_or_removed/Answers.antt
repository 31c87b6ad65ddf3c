use Rattle.fh_dispatch.proofs.Lawful.{keeps_timers}
use Rattle.fh_dispatch.proofs.laws.timers_are_kept_or_removed.Goals as goal

pub returns : goal.returns
returns c = keeps_timers
