use Rattle.fh_queues.specs.Edits.{IsIdle}
use Rattle.fh_queues.proofs.tests.index.interleaved_puts_are_found_as_by_a_plain_scan.Given as goal

abbrev pub invariant-loop-step : goal.invariant-loop-step
invariant-loop-step g l = IsIdle l.queues

abbrev pub invariant-loop-later : goal.invariant-loop-later
invariant-loop-later g l = IsIdle l.queues
