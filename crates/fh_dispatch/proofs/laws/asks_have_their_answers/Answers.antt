use Rattle.fh_dispatch.proofs.Lawful.{answers_the_ask}
use Rattle.fh_dispatch.proofs.laws.asks_have_their_answers.Goals as goal

pub returns : goal.returns
returns c = answers_the_ask
