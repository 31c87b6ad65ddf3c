use Rattle.std.proofs.Common.{length}
use Rattle.fh_dispatch.proofs.InTurn.{in_turn-none}
use Rattle.fh_dispatch.proofs.invocations.Invocations.new.Goals as goal

pub returns-clause-running : goal.returns-clause-running
returns-clause-running c = rw c.new.ensures (in_turn-none (length c.new-2.result.items))
