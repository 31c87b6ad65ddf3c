use Rattle.fh_blobs.specs.Outcome.{acting, outcome}
use Rattle.fh_blobs.proofs.blobs.Blobs.plan.Goals as goal

pub returns-in-Remove : goal.returns-in-Remove
unfolding acting outcome
returns-in-Remove c = rw c.in-Remove.is c.plan_remove.ensures

pub returns-in-Note : goal.returns-in-Note
unfolding acting outcome
returns-in-Note c = rw c.in-Note.is c.plan_note.ensures
