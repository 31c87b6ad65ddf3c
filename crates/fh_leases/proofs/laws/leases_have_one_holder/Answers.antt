use Rattle.fh_leases.proofs.Lawful.{one_holder}
use Rattle.fh_leases.proofs.laws.leases_have_one_holder.Goals as goal

pub returns : goal.returns
returns c = one_holder
