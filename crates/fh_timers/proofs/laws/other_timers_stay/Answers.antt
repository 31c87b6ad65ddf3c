use Rattle.fh_timers.proofs.Lawful.{keeps_others}
use Rattle.fh_timers.proofs.laws.other_timers_stay.Goals as goal

pub returns : goal.returns
returns c = keeps_others
