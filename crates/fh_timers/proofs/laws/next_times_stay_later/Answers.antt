use Rattle.fh_timers.proofs.Lawful.{keeps_later}
use Rattle.fh_timers.proofs.laws.next_times_stay_later.Goals as goal

pub returns : goal.returns
returns c = keeps_later
