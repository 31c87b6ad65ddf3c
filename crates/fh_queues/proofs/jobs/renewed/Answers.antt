use Rattle.std.proofs.Common.{arith}
use Rattle.std.proofs.lemmas.Grind.{common_steps}
use Rattle.fh_queues.proofs.Sending.{renewed-push}
use Rattle.fh_queues.proofs.jobs.renewed.Goals as goal

pub loop-message-preserved : goal.loop-message-preserved
loop-message-preserved c = record {
  next = omega (arith, c.loop-message.invariant.next);
  renewed = grind (arith, common_steps, renewed-push);
}
