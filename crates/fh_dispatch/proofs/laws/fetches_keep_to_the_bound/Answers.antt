use Rattle.fh_dispatch.proofs.Lawful.{keeps_to_the_bound}
use Rattle.fh_dispatch.proofs.laws.fetches_keep_to_the_bound.Goals as goal

pub returns : goal.returns
returns c = keeps_to_the_bound
