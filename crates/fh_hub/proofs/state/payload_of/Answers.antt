use Rattle.std.proofs.Common.{rules}
use Rattle.fh_hub.specs.Replay.{entry_for}
use Rattle.fh_hub.proofs.Spelling.{entry_is}
use Rattle.fh_hub.proofs.state.payload_of.Goals as goal

pub returns-clause-spelled : goal.returns-clause-spelled
returns-clause-spelled c = search rules

pub returns-clause-entry : goal.returns-clause-entry
returns-clause-entry c = entry_is c.new.result (entry_for c.args.command.now c.args.m) (returns-clause-spelled c)
