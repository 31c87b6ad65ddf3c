use Rattle.fh_hub.specs.Replay.{entry_for}
use Rattle.fh_hub.proofs.Spelling.{entry_is}
use Rattle.fh_hub.proofs.mounting.entry_of.Goals as goal

pub returns-in-Ok-clause-entry : goal.returns-in-Ok-clause-entry
returns-in-Ok-clause-entry c = entry_is c.args.bytes.now (entry_for c.in-Ok.entry.1 c.in-Ok.entry.0)
    c.in-Ok.ensures.read
