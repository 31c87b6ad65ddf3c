use Rattle.fh_timers.proofs.Lawful.{keeps_schedules}
use Rattle.fh_timers.proofs.laws.due_times_are_scheduled.Goals as goal

pub returns : goal.returns
returns c = keeps_schedules
