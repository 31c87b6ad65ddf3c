use Rattle.fh_hub.proofs.Places.{located}
use Rattle.fh_hub.proofs.laws.messages_are_located.Goals as goal

pub returns : goal.returns
returns c = located
