use Rattle.fh_dispatch.proofs.Lawful.{moves_numbers}
use Rattle.fh_dispatch.proofs.laws.counters_move_little.Goals as goal

pub returns : goal.returns
returns c = moves_numbers
