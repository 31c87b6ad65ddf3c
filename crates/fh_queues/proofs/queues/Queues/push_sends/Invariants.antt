use Rattle.std.proofs.Common.{◌≡◌, ◌++◌, take}
use Rattle.fh_queues.specs.Jobs.{sends}
use Rattle.fh_queues.proofs.queues.Queues.push_sends.Given as goal

abbrev pub invariant-loop-output : goal.invariant-loop-output
invariant-loop-output l = l.acts.items ≡ l.fn.acts.items ++ sends l.m (take l.output-index l.outputs)
