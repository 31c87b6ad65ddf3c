use Rattle.fh_queues.proofs.Lawful.{short_texts}
use Rattle.fh_queues.proofs.laws.texts_are_short.Goals as goal

pub returns : goal.returns
returns c = short_texts
