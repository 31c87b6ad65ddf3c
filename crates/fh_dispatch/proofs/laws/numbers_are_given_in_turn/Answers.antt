use Rattle.fh_dispatch.proofs.Lawful.{numbers_in_turn}
use Rattle.fh_dispatch.proofs.laws.numbers_are_given_in_turn.Goals as goal

pub returns : goal.returns
returns c = numbers_in_turn
