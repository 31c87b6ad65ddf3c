use Rattle.std.proofs.Common.{◌≡◌, length}
use Rattle.fh_base.specs.Names.{has_two_dashes_together}
use Rattle.fh_base.proofs.queue_name.has_two_dashes_together.Given as goal

abbrev pub invariant-loop-rest : goal.invariant-loop-rest
invariant-loop-rest l = has_two_dashes_together l.text ≡ has_two_dashes_together l.rest

abbrev pub decreases-loop-rest : goal.decreases-loop-rest
decreases-loop-rest l = length l.rest
