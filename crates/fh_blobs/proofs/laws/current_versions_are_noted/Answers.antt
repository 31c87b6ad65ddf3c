use Rattle.fh_blobs.proofs.Lawful.{notes_current}
use Rattle.fh_blobs.proofs.laws.current_versions_are_noted.Goals as goal

pub returns : goal.returns
returns c = notes_current
