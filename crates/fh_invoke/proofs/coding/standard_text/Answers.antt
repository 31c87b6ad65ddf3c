use Rattle.fh_invoke.specs.Texts.{standard_text}
use Rattle.fh_invoke.proofs.coding.standard_text.Goals as goal

pub returns : goal.returns
unfolding standard_text
returns c = c.encoded_by.ensures
