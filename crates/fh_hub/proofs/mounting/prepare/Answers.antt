use Rattle.std.proofs.Common.{rules}
use Rattle.fh_hub.specs.Replay.{payloads_of}
use Rattle.fh_hub.proofs.Mounted.{made_images, refused_mount, same_images}
use Rattle.fh_hub.proofs.mounting.prepare.Goals as goal

pub returns-in_err-prepared-clause-any_moment : goal.returns-in_err-prepared-clause-any_moment
returns-in_err-prepared-clause-any_moment g c =
    made_images g.J.Disk c.args.disk.now c.prepare.new.disk c.prepare.ensures.any_moment

pub returns-clause-any_moment : goal.returns-clause-any_moment
returns-clause-any_moment g c = made_images g.J.Disk c.args.disk.now c.prepare.new.disk c.prepare.ensures.any_moment

pub returns-in_err-prepared-clause-same_history : goal.returns-in_err-prepared-clause-same_history
returns-in_err-prepared-clause-same_history g c = λ history.
    same_images g.J.Disk c.args.disk.now c.prepare.new.disk history
    (c.prepare.ensures.same_journal (payloads_of history))

pub returns-clause-same_history : goal.returns-clause-same_history
returns-clause-same_history g c = λ history.
    same_images g.J.Disk c.args.disk.now c.prepare.new.disk history
    (c.prepare.ensures.same_journal (payloads_of history))

pub returns-clause-refused : goal.returns-clause-refused
returns-clause-refused g c =
    refused_mount (g.J.Disk.told c.args.disk.now) (g.J.Disk.told c.prepare.new.disk)
    (g.J.Disk.may_leave c.prepare.new.disk) c.in_ok-prepared.prepared c.replayed.result (search rules)
    (search rules) (search rules)
