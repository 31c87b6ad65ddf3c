use Rattle.fh_blobs.proofs.Lawful.{gives_in_turn}
use Rattle.fh_blobs.proofs.laws.versions_are_given_in_turn.Goals as goal

pub returns : goal.returns
returns c = gives_in_turn
