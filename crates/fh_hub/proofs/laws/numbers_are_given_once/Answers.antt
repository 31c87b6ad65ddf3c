use Rattle.fh_hub.proofs.Turns.{numbers_once, numbers_in_turn}
use Rattle.fh_hub.proofs.laws.numbers_are_given_once.Goals as goal

pub returns-clause-once : goal.returns-clause-once
returns-clause-once c = numbers_once

pub returns-clause-in_turn : goal.returns-clause-in_turn
returns-clause-in_turn c = numbers_in_turn
