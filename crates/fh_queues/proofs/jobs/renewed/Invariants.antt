use Rattle.std.proofs.Common.{◌≡◌, ◌+◌, take}
use Rattle.fh_queues.specs.Jobs.{renewed}
use Rattle.fh_queues.proofs.jobs.renewed.Given as goal

abbrev pub invariant-loop-message : goal.invariant-loop-message
invariant-loop-message l = record {
  next : l.next ≡ l.receipt + l.message-index;
  renewed : l.renewed.items ≡ renewed l.receipt (take l.message-index l.messages);
}
