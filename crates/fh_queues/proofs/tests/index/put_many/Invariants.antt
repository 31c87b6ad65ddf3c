use Rattle.fh_queues.specs.Edits.{IsIdle}
use Rattle.fh_queues.proofs.tests.index.put_many.Given as goal

abbrev pub invariant-loop : goal.invariant-loop
invariant-loop g l = IsIdle l.queues
