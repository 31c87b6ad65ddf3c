use Rattle.fh_hub.specs.History.{entry_of}
use Rattle.fh_hub.proofs.state.State.record.Given as goal

abbrev pub ghost-make : goal.ghost-make
ghost-make a = entry_of a.payload
