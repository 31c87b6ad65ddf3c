use Rattle.std.proofs.Common.{rules}
use Rattle.fh_hub.proofs.Mounted.{refused_entry}
use Rattle.fh_hub.proofs.state.State.replay_entry.Goals as goal

pub returns-clause-reason : goal.returns-clause-reason
returns-clause-reason c =
    refused_entry c.args.self.now c.args.payload
    (record { command = c.in_ok-moment.command; moment = c.in_ok-moment.moment })
    c.record.result c.requires.faithful.world (search rules) c.record.ensures.reason
