use Rattle.std.proofs.Common.{◌≡◌, take}
use Rattle.fh_dispatch.specs.Outputs.{blobs_of}
use Rattle.fh_dispatch.proofs.outputs.blobs_of.Given as goal

abbrev pub invariant-loop-output : goal.invariant-loop-output
invariant-loop-output l = l.blobs.items ≡ blobs_of (take l.output-index l.outputs)
