use Rattle.fh_timers.proofs.Lawful.{raises_due_times}
use Rattle.fh_timers.proofs.laws.due_times_rise.Goals as goal

pub returns : goal.returns
returns c = raises_due_times
