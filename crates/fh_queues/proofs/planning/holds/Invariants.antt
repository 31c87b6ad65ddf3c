use Rattle.std.proofs.Common.{◌≡◌, ◌∷◌, take, map}
use Rattle.fh_queues.specs.Acts.{sweep}
use Rattle.fh_queues.specs.Outcome.{hold}
use Rattle.fh_queues.proofs.planning.holds.Given as goal

abbrev pub invariant-loop-item : goal.invariant-loop-item
invariant-loop-item l = l.acts.items ≡ sweep l.fn.m ∷ map (hold l.until) (take l.item-index l.items)
