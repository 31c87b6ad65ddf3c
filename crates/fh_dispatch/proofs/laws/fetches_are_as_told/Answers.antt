use Rattle.fh_dispatch.proofs.Lawful.{fetches_as_told}
use Rattle.fh_dispatch.proofs.laws.fetches_are_as_told.Goals as goal

pub returns : goal.returns
returns c = fetches_as_told
