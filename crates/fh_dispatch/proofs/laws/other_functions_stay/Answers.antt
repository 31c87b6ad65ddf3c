use Rattle.fh_dispatch.proofs.Lawful.{keeps_unnamed}
use Rattle.fh_dispatch.proofs.laws.other_functions_stay.Goals as goal

pub returns : goal.returns
returns c = keeps_unnamed
