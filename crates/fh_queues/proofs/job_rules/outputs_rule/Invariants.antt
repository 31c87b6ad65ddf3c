use Rattle.std.proofs.Common.{◌≡◌, None, take}
use Rattle.fh_queues.specs.Rules.{outputs_rule}
use Rattle.fh_queues.proofs.job_rules.outputs_rule.Given as goal

abbrev pub invariant-loop-output : goal.invariant-loop-output
invariant-loop-output l = outputs_rule (take l.output-index l.outputs) ≡ None
