use Rattle.fh_queues.specs.Edits.{IsIdle}
use Rattle.fh_queues.proofs.tests.let_each_go.Given as goal

abbrev pub invariant-loop-step : goal.invariant-loop-step
invariant-loop-step g l = IsIdle l.queues
