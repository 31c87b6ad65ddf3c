use Rattle.fh_hub.proofs.Bringing.{all_bounded}
use Rattle.fh_hub.proofs.laws.fetches_keep_to_their_bounds.Goals as goal

pub returns : goal.returns
returns c = all_bounded
