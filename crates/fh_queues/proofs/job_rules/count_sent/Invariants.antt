use Rattle.std.proofs.Common.{◌≡◌, ◌≤◌, take}
use Rattle.fh_queues.specs.Jobs.{count_sent}
use Rattle.fh_queues.proofs.job_rules.count_sent.Given as goal

abbrev pub invariant-loop-output : goal.invariant-loop-output
invariant-loop-output l = record {
  count : l.count ≡ count_sent (take l.output-index l.outputs);
  few : l.count ≤ l.output-index;
}
