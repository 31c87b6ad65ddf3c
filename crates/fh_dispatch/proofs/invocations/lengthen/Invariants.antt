use Rattle.std.proofs.Common.{◌≤◌, length}
use Rattle.fh_dispatch.specs.Runs.{IsLengthened}
use Rattle.fh_dispatch.proofs.invocations.lengthen.Given as goal

abbrev pub invariant-loop-place : goal.invariant-loop-place
invariant-loop-place l = record {
  keys : IsLengthened l.initial.dues l.dues;
  far : l._place ≤ length l.dues;
}
