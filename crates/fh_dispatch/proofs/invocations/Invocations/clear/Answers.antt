use Rattle.std.proofs.Common.{length}
use Rattle.fh_dispatch.proofs.InTurn.{in_turn-none}
use Rattle.fh_dispatch.proofs.invocations.Invocations.clear.Goals as goal

pub returns-clause-running : goal.returns-clause-running
returns-clause-running c = rw c.clear.ensures.rows (in_turn-none (length c.self.inside.functions.items))
