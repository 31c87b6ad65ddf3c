use Rattle.fh_dispatch.proofs.Comparing.{compared}
use Rattle.fh_dispatch.proofs.laws.same_settings_are_equal.Goals as goal

pub returns : goal.returns
returns c = compared
