use Rattle.fh_hub.specs.Replay.{noted}
use Rattle.fh_hub.specs.State.{world_of}
use Rattle.fh_hub.proofs.Crashes.{untouched}
use Rattle.fh_hub.proofs.hub.Hub.step.Goals as goal

pub returns-in_err-reply-clause-any_moment : goal.returns-in_err-reply-clause-any_moment
returns-in_err-reply-clause-any_moment g c = λ failed kept.
    untouched g.J.Disk.told g.J.Disk.may_leave g.J.Disk.moment g.J.Disk.left_since c.args.self.now.journal.disk.now
    (g.met.J.Disk.only_now c.args.self.now.journal.disk.now)
    c.args.self.now.journal.torn c.args.self.now.state.history
    (noted (world_of c.args.self.now.state) c.args.command.now c.args.now) failed c.args.self.now.journal.gate kept

pub returns-in-Reads-clause-any_moment : goal.returns-in-Reads-clause-any_moment
returns-in-Reads-clause-any_moment g c = λ failed kept.
    untouched g.J.Disk.told g.J.Disk.may_leave g.J.Disk.moment g.J.Disk.left_since c.args.self.now.journal.disk.now
    (g.met.J.Disk.only_now c.args.self.now.journal.disk.now)
    c.args.self.now.journal.torn c.args.self.now.state.history
    (noted (world_of c.args.self.now.state) c.args.command.now c.args.now) failed c.args.self.now.journal.gate kept

pub returns-in_err-payload-in-Records-clause-any_moment : goal.returns-in_err-payload-in-Records-clause-any_moment
returns-in_err-payload-in-Records-clause-any_moment g c = λ failed kept.
    untouched g.J.Disk.told g.J.Disk.may_leave g.J.Disk.moment g.J.Disk.left_since c.args.self.now.journal.disk.now
    (g.met.J.Disk.only_now c.args.self.now.journal.disk.now)
    c.args.self.now.journal.torn c.args.self.now.state.history
    (noted (world_of c.args.self.now.state) c.args.command.now c.args.now) failed c.args.self.now.journal.gate kept
