use Rattle.fh_queues.specs.Edits.{IsIdle}
use Rattle.fh_queues.proofs.tests.a_text_has_65536_bytes_at_most.Given as goal

abbrev pub invariant-loop-size : goal.invariant-loop-size
invariant-loop-size g l = IsIdle l.queues
