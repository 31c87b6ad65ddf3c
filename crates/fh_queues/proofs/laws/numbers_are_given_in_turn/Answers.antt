use Rattle.fh_queues.proofs.Lawful.{gives_numbers}
use Rattle.fh_queues.proofs.laws.numbers_are_given_in_turn.Goals as goal

pub returns : goal.returns
returns c = gives_numbers
