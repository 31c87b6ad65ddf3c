use Rattle.std.proofs.Common.{◌≡◌, ◌≤◌, ◌-◌, length, map, vec_len}
use Rattle.fh_queues.specs.Rows.{is_visible}
use Rattle.fh_queues.specs.Lanes.{lane_of}
use Rattle.fh_queues.proofs.Walks.{passed}
use Rattle.fh_queues.proofs.Indexes.{seen_in}
use Rattle.fh_queues.proofs.lists.Lists.chosen.Given as goal

abbrev pub invariant-loop-m : goal.invariant-loop-m
invariant-loop-m l = record {
  within : l.from ≤ length (lane_of l.queue l.self.lanes).numbers;
  found : map (λ row. row.now) l.found.items ≡ passed (is_visible l.queue l.m) (seen_in (lane_of l.queue l.self.lanes) l.from) l.self.slots.items;
  few : vec_len l.found ≤ l.count;
}

abbrev pub decreases-loop-m : goal.decreases-loop-m
decreases-loop-m l = length (lane_of l.queue l.self.lanes).numbers - l.from
