use Rattle.fh_hub.proofs.Timing.{runs_in_turn}
use Rattle.fh_hub.proofs.laws.runs_come_in_turn.Goals as goal

pub returns : goal.returns
returns c = runs_in_turn
