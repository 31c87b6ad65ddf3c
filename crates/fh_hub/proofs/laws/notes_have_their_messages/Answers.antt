use Rattle.fh_hub.proofs.Noting.{all_note}
use Rattle.fh_hub.proofs.laws.notes_have_their_messages.Goals as goal

pub returns : goal.returns
returns c = all_note
