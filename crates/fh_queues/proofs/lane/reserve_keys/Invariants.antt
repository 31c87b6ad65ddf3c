use Rattle.std.proofs.Common.{◌≤◌, length}
use Rattle.fh_queues.specs.Lanes.{KeepsKeys}
use Rattle.fh_queues.proofs.lane.reserve_keys.Given as goal

abbrev pub invariant-loop-place : goal.invariant-loop-place
invariant-loop-place l = record {
  keys : KeepsKeys l.initial.keys l.keys;
  far : l._place ≤ length l.keys;
}
