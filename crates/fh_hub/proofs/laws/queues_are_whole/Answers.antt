use Rattle.fh_hub.proofs.Told.{told}
use Rattle.fh_hub.proofs.laws.queues_are_whole.Goals as goal

pub returns : goal.returns
returns c = λ history. (told history).whole
