use Rattle.fh_leases.proofs.Lawful.{keeps_unnamed}
use Rattle.fh_leases.proofs.laws.other_leases_stay.Goals as goal

pub returns : goal.returns
returns c = keeps_unnamed
