use Rattle.fh_hub.specs.History.{entry_of}
use Rattle.fh_hub.proofs.hub.Hub.step.Given as goal

abbrev pub ghost-record : goal.ghost-record
ghost-record g a = entry_of a.payload
