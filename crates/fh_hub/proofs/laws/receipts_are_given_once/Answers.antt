use Rattle.fh_hub.proofs.Turns.{receipts_once, receipts_in_turn}
use Rattle.fh_hub.proofs.laws.receipts_are_given_once.Goals as goal

pub returns-clause-once : goal.returns-clause-once
returns-clause-once c = receipts_once

pub returns-clause-in_turn : goal.returns-clause-in_turn
returns-clause-in_turn c = receipts_in_turn
