use Rattle.fh_invoke.specs.Texts.{plain_text, decoded_by}
use Rattle.fh_invoke.proofs.coding.plain_text.Goals as goal

pub returns : goal.returns
unfolding plain_text decoded_by
returns c = c.decoded_by.ensures
