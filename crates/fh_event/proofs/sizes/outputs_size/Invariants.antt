use Rattle.std.proofs.Common.{◌≡◌, ◌-◌, ◌^◌, length, take}
use Rattle.std.specs.Prelude.{min}
use Rattle.std.specs.List.{flat_map}
use Rattle.fh_event.specs.Fields.{spelled}
use Rattle.fh_event.specs.Outcomes.{fields_of_output}
use Rattle.fh_event.proofs.sizes.outputs_size.Given as goal

abbrev pub invariant-loop-output : goal.invariant-loop-output
invariant-loop-output l =
    l.size ≡ min (length (flat_map spelled (flat_map fields_of_output (take l.output-index l.outputs)))) (2 ^ 64 - 1)
