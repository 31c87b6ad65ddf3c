use Rattle.fh_timers.proofs.Lawful.{Whole-none, Whole-outcome}
use Rattle.fh_timers.proofs.laws.timers_stay_whole.Goals as goal

pub returns-clause-none : goal.returns-clause-none
returns-clause-none c = Whole-none

pub returns-clause-each : goal.returns-clause-each
returns-clause-each c = Whole-outcome
