use Rattle.std.proofs.Common.{◌≤◌, ◌-◌, length}
use Rattle.fh_queues.specs.Acts.{is_one}
use Rattle.fh_queues.specs.Lanes.{lane_of}
use Rattle.fh_queues.specs.Lists.{IsSound, Stays}
use Rattle.fh_queues.proofs.Sweeps.{Sweeps}
use Rattle.fh_queues.proofs.Indexes.{seen_in}
use Rattle.fh_queues.proofs.lists.Lists.end_queue.Given as goal

abbrev pub invariant-loop-next : goal.invariant-loop-next
invariant-loop-next l = record {
  sound : IsSound l.self;
  within : l.from ≤ length (lane_of l.queue l.self.lanes).numbers;
  sweeps : Sweeps (is_one l.which) l.ending (seen_in (lane_of l.queue l.self.lanes) l.from) l.initial.self.slots.items l.self.slots.items;
  stays : Stays l.initial.self l.self;
}

abbrev pub decreases-loop-next : goal.decreases-loop-next
decreases-loop-next l = length (lane_of l.queue l.self.lanes).numbers - l.from
