use Rattle.fh_leases.proofs.Lawful.{told}
use Rattle.fh_leases.proofs.laws.holders_are_told.Goals as goal

pub returns : goal.returns
returns c = told
