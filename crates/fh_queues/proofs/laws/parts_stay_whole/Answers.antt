use Rattle.fh_queues.proofs.Whole.{Whole-none}
use Rattle.fh_queues.proofs.Fairness.{Whole-outcome}
use Rattle.fh_queues.proofs.laws.parts_stay_whole.Goals as goal

pub returns-clause-none : goal.returns-clause-none
returns-clause-none c = Whole-none

pub returns-clause-each : goal.returns-clause-each
returns-clause-each c = λ part ask m after answer h is. Whole-outcome part ask m after answer h is
