use Rattle.std.proofs.Common.{◌≡◌, ◌∷◌, take, map}
use Rattle.fh_queues.specs.Acts.{sweep}
use Rattle.fh_queues.specs.Jobs.{holding_on}
use Rattle.fh_queues.proofs.jobs.holds_on.Given as goal

abbrev pub invariant-loop-message : goal.invariant-loop-message
invariant-loop-message l = l.acts.items ≡ sweep l.fn.m ∷ map (holding_on l.until) (take l.message-index l.messages)
