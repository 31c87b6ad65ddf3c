use Rattle.std.proofs.Common.{ℕ, List}
use Rattle.fh_queues.specs.Lanes.{lane_of, KeepsKeys}
use Rattle.fh_queues.proofs.Indexes as indexes
use Rattle.fh_queues.proofs.Keeping as keeping
use Rattle.fh_queues.proofs.lists.Lists.act.Goals as goal

pub returns-in-AddQueue-clause-sound : goal.returns-in-AddQueue-clause-sound
returns-in-AddQueue-clause-sound c =
    let lanes = c.args.self.now.lanes in
    let new = c.make.new.self in
    let keys : (name : List ℕ) → KeepsKeys (lane_of name lanes).keys (lane_of name new).keys = λ name. rw (c.make.ensures.lanes name).keys (keeping.keeps-same (lane_of name lanes).keys) in
    record {
      indexed = indexes.indexed-grows (λ name. lane_of name lanes) (λ name. lane_of name new) c.args.self.now.slots.items c.args.self.now.expiries c.args.self.now.expiries c.requires.sound.indexed (λ name. (c.make.ensures.lanes name).numbers) keys (keeping.keeps-same c.args.self.now.expiries);
      count = c.requires.sound.count;
    }

pub returns-in-ChangeRow-clause-room : goal.returns-in-ChangeRow-clause-room
returns-in-ChangeRow-clause-room c k room = c.change_row.ensures.room k (keeping.room-less k c.args.self.now room)

pub returns-in-ChangeRow-clause-ready : goal.returns-in-ChangeRow-clause-ready
returns-in-ChangeRow-clause-ready c k name ready = c.change_row.ensures.ready k name (keeping.ready-less k (lane_of name c.args.self.now.lanes) ready)

pub returns-in-EndRows-clause-room : goal.returns-in-EndRows-clause-room
returns-in-EndRows-clause-room c k room = c.end_rows.ensures.room k (keeping.room-less k c.args.self.now room)

pub returns-in-EndRows-clause-ready : goal.returns-in-EndRows-clause-ready
returns-in-EndRows-clause-ready c k name ready = c.end_rows.ensures.ready k name (keeping.ready-less k (lane_of name c.args.self.now.lanes) ready)
