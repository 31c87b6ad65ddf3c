use Rattle.fh_hub.proofs.Rising.{own_moments}
use Rattle.fh_hub.proofs.laws.legal_events_have_their_moments.Goals as goal

pub returns : goal.returns
returns c = own_moments
