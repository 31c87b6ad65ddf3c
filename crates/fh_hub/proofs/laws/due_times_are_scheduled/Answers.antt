use Rattle.fh_hub.proofs.Timing.{all_in_time}
use Rattle.fh_hub.proofs.laws.due_times_are_scheduled.Goals as goal

pub returns : goal.returns
returns c = all_in_time
