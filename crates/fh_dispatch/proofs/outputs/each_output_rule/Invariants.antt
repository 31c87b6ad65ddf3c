use Rattle.std.proofs.Common.{◌≡◌, None, take}
use Rattle.fh_dispatch.specs.Outputs.{each_output_rule}
use Rattle.fh_dispatch.proofs.outputs.each_output_rule.Given as goal

abbrev pub invariant-loop-output : goal.invariant-loop-output
invariant-loop-output l = each_output_rule (take l.output-index l.outputs) ≡ None
