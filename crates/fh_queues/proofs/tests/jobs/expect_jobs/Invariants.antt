use Rattle.fh_queues.specs.Edits.{IsIdle}
use Rattle.fh_queues.proofs.tests.jobs.expect_jobs.Given as goal

abbrev pub invariant-loop-ms : goal.invariant-loop-ms
invariant-loop-ms g l = IsIdle l.queues
