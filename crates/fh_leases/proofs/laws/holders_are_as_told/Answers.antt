use Rattle.fh_leases.proofs.Lawful.{tells}
use Rattle.fh_leases.proofs.laws.holders_are_as_told.Goals as goal

pub returns : goal.returns
returns c = tells
