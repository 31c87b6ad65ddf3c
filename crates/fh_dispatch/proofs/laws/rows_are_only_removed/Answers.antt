use Rattle.fh_dispatch.proofs.Lawful.{asks_only_to_remove}
use Rattle.fh_dispatch.proofs.laws.rows_are_only_removed.Goals as goal

pub returns : goal.returns
returns c = asks_only_to_remove
