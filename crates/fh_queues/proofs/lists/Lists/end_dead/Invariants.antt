use Rattle.std.proofs.Common.{◌≤◌, ◌-◌, length}
use Rattle.fh_queues.specs.Acts.{is_one}
use Rattle.fh_queues.specs.Lists.{IsSound, Stays}
use Rattle.fh_queues.proofs.Sweeps.{Sweeps}
use Rattle.fh_queues.proofs.lists.Lists.end_dead.Given as goal

abbrev pub invariant-loop-at : goal.invariant-loop-at
invariant-loop-at l = record {
  sound : IsSound l.self;
  within : l.from ≤ length l.self.slots.items;
  sweeps : Sweeps (is_one l.which) l.ending l.from l.initial.self.slots.items l.self.slots.items;
  stays : Stays l.initial.self l.self;
}

abbrev pub decreases-loop-at : goal.decreases-loop-at
decreases-loop-at l = length l.self.slots.items - l.from
