use Rattle.fh_hub.proofs.Leasing.{held_by_one}
use Rattle.fh_hub.proofs.laws.leases_have_one_holder.Goals as goal

pub returns : goal.returns
returns c = held_by_one
