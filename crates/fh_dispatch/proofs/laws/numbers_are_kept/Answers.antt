use Rattle.fh_dispatch.proofs.Lawful.{numbers_kept}
use Rattle.fh_dispatch.proofs.laws.numbers_are_kept.Goals as goal

pub returns : goal.returns
returns c = numbers_kept
