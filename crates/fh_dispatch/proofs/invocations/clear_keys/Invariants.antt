use Rattle.std.proofs.Common.{◌≡◌, length, take}
use Rattle.fh_dispatch.specs.Runs.{HasNoKeys}
use Rattle.fh_dispatch.proofs.invocations.clear_keys.Given as goal

abbrev pub invariant-loop-run : goal.invariant-loop-run
invariant-loop-run l = record {
  len : length l.dues ≡ length l.initial.dues;
  keys : HasNoKeys (take l.run-index l.gone) l.initial.dues l.dues;
}
