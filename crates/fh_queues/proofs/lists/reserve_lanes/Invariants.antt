use Rattle.std.proofs.Common.{length, take}
use Rattle.fh_queues.specs.Lanes.{Grows}
use Rattle.fh_queues.specs.Lists.{AreReady}
use Rattle.fh_queues.proofs.lists.reserve_lanes.Given as goal

abbrev pub invariant-loop-act : goal.invariant-loop-act
invariant-loop-act l = record {
  grows : Grows l.initial.lanes l.lanes;
  ready : AreReady l.lanes (length l.acts) (take l.act-index l.acts);
}
