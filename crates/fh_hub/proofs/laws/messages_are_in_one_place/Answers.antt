use Rattle.fh_hub.proofs.Places.{in_one_place}
use Rattle.fh_hub.proofs.laws.messages_are_in_one_place.Goals as goal

pub returns : goal.returns
returns c = in_one_place
