use Rattle.std.proofs.Common.{◌≡◌, ◌≤◌, ◌-◌, length}
use Rattle.fh_queues.specs.Rows.{is_dead}
use Rattle.fh_queues.proofs.Walks.{passed}
use Rattle.fh_queues.proofs.lists.Lists.live.Given as goal

abbrev pub invariant-loop-at : goal.invariant-loop-at
invariant-loop-at l = record {
  within : l.from ≤ length l.self.slots.items;
  few : l.dead ≤ l.from;
  dead : l.dead ≡ length (passed (is_dead l.m) l.from l.self.slots.items);
}

abbrev pub decreases-loop-at : goal.decreases-loop-at
decreases-loop-at l = length l.self.slots.items - l.from
