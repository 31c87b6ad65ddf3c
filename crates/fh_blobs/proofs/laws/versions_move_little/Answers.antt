use Rattle.fh_blobs.proofs.Lawful.{moves_versions}
use Rattle.fh_blobs.proofs.laws.versions_move_little.Goals as goal

pub returns : goal.returns
returns c = moves_versions
