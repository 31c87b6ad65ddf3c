use Rattle.std.proofs.Common.{◌≡◌, ◌≤◌, ◌-◌, length}
use Rattle.fh_queues.specs.Lanes.{lane_of}
use Rattle.fh_queues.specs.Index.{live_of}
use Rattle.fh_queues.proofs.Walks.{passed}
use Rattle.fh_queues.proofs.Indexes.{seen_in}
use Rattle.fh_queues.proofs.lists.Lists.live_in.Given as goal

abbrev pub invariant-loop-next : goal.invariant-loop-next
invariant-loop-next l = record {
  within : l.from ≤ length (lane_of l.queue l.self.lanes).numbers;
  count : l.count ≡ length (passed (live_of l.queue l.m) (seen_in (lane_of l.queue l.self.lanes) l.from) l.self.slots.items);
  few : l.count ≤ seen_in (lane_of l.queue l.self.lanes) l.from;
}

abbrev pub decreases-loop-next : goal.decreases-loop-next
decreases-loop-next l = length (lane_of l.queue l.self.lanes).numbers - l.from
