use Rattle.std.proofs.Common.{rules, ◌≡◌, ◌++◌, ◌∷◌, [], inl, arith, ℕ, List}
use Rattle.std.proofs.lemmas.Grind.{common_steps}
use Rattle.fh_hub.specs.Hub.{KeepsHistory}
use Rattle.fh_hub.specs.StoreEdits.{parts_of, changed, answered}
use Rattle.fh_hub.specs.Replay.{Entry, bytes_of, payloads_of}
use Rattle.fh_hub.proofs.Crashes.{untouched, appended, keeps_pushed}
use Rattle.fh_hub.proofs.Replays.{legal_planned}
use Rattle.fh_hub.proofs.hub.Hub.record.Goals as goal

pub returns-in_err-staged-clause-any_moment : goal.returns-in_err-staged-clause-any_moment
returns-in_err-staged-clause-any_moment g c = λ failed kept.
    untouched g.J.Disk.told g.J.Disk.may_leave g.J.Disk.moment g.J.Disk.left_since c.args.self.now.journal.disk.now
    (g.met.J.Disk.only_now c.args.self.now.journal.disk.now)
    c.args.self.now.journal.torn c.args.self.now.state.history (g.e ∷ []) failed c.args.self.now.journal.gate kept

pub returns-then-is_err-clause-any_moment : goal.returns-then-is_err-clause-any_moment
returns-then-is_err-clause-any_moment g c = λ failed kept. rw c.reserve.ensures.disk
    (untouched g.J.Disk.told g.J.Disk.may_leave g.J.Disk.moment g.J.Disk.left_since c.args.self.now.journal.disk.now
    (g.met.J.Disk.only_now c.args.self.now.journal.disk.now)
    c.args.self.now.journal.torn c.args.self.now.state.history (g.e ∷ []) failed c.args.self.now.journal.gate kept)

pub returns-in-Ok-clause-keeps : goal.returns-in-Ok-clause-keeps
returns-in-Ok-clause-keeps g c = λ failed kept.
    let history : List Entry = c.args.self.now.state.history in
    let payload : List ℕ = c.as_slice-payload.result.now in
    let is : payload ≡ bytes_of g.e = grind (arith, common_steps) in
    let reserved : KeepsHistory (g.J.Disk.told c.reserve.new.self.disk.now)
    (g.J.Disk.may_leave c.reserve.new.self.disk.now)
    c.reserve.new.self.torn history failed c.reserve.new.self.gate =
    rw (c.reserve.ensures.disk, c.reserve.ensures.torn, c.reserve.ensures.gate) kept in
    let added = c.in-Ok.ensures.added (payloads_of history) (bytes_of failed) reserved in
    let grows : c.settle.new.self.history ≡ history ++ g.e ∷ [] = grind (arith, common_steps) in
    inl (rw (c.in-Ok.ensures.whole, grows) (keeps_pushed (g.J.Disk.told c.append.new.self.disk.now)
    (g.J.Disk.may_leave c.append.new.self.disk.now) history g.e failed payload c.append.new.self.gate is added))

pub returns-in-Ok-clause-any_moment : goal.returns-in-Ok-clause-any_moment
returns-in-Ok-clause-any_moment g c = λ failed kept.
    let history : List Entry = c.args.self.now.state.history in
    let payload : List ℕ = c.as_slice-payload.result.now in
    let is : payload ≡ bytes_of g.e = grind (arith, common_steps) in
    let reserved : KeepsHistory (g.J.Disk.told c.reserve.new.self.disk.now)
    (g.J.Disk.may_leave c.reserve.new.self.disk.now)
    c.reserve.new.self.torn history failed c.reserve.new.self.gate =
    rw (c.reserve.ensures.disk, c.reserve.ensures.torn, c.reserve.ensures.gate) kept in
    let only = c.in-Ok.ensures.any_moment (payloads_of history) (bytes_of failed) reserved in
    rw (← c.reserve.ensures.disk, ← c.reserve.ensures.torn)
    (appended g.J.Disk.told g.J.Disk.may_leave g.J.Disk.moment g.J.Disk.left_since c.reserve.new.self.disk.now
    c.append.new.self.disk.now c.reserve.new.self.torn history failed g.e payload is only)

pub returns-in-Err-clause-any_moment : goal.returns-in-Err-clause-any_moment
returns-in-Err-clause-any_moment g c = λ failed kept.
    let history : List Entry = c.args.self.now.state.history in
    let payload : List ℕ = c.as_slice-payload.result.now in
    let is : payload ≡ bytes_of g.e = grind (arith, common_steps) in
    let reserved : KeepsHistory (g.J.Disk.told c.reserve.new.self.disk.now)
    (g.J.Disk.may_leave c.reserve.new.self.disk.now)
    c.reserve.new.self.torn history failed c.reserve.new.self.gate =
    rw (c.reserve.ensures.disk, c.reserve.ensures.torn, c.reserve.ensures.gate) kept in
    let only = c.in-Err.ensures.any_moment (payloads_of history) (bytes_of failed) reserved in
    rw (← c.reserve.ensures.disk, ← c.reserve.ensures.torn)
    (appended g.J.Disk.told g.J.Disk.may_leave g.J.Disk.moment g.J.Disk.left_since c.reserve.new.self.disk.now
    c.append.new.self.disk.now c.reserve.new.self.torn history failed g.e payload is only)

pub returns-in_err-staged-clause-legal : goal.returns-in_err-staged-clause-legal
returns-in_err-staged-clause-legal g c faithful = legal_planned c.args.self.now.state
    (changed (parts_of c.args.self.now.state.stores) c.args.change.stores) (answered c.args.change.stores)
    c.args.payload g.e faithful (search rules) (search rules)

pub returns-then-is_err-clause-legal : goal.returns-then-is_err-clause-legal
returns-then-is_err-clause-legal g c faithful = legal_planned c.args.self.now.state
    (changed (parts_of c.args.self.now.state.stores) c.args.change.stores) (answered c.args.change.stores)
    c.args.payload g.e faithful (search rules) (search rules)

pub returns-in-Err-clause-legal : goal.returns-in-Err-clause-legal
returns-in-Err-clause-legal g c faithful = legal_planned c.args.self.now.state
    (changed (parts_of c.args.self.now.state.stores) c.args.change.stores) (answered c.args.change.stores)
    c.args.payload g.e faithful (search rules) (search rules)

pub returns-in-Ok-clause-legal : goal.returns-in-Ok-clause-legal
returns-in-Ok-clause-legal g c faithful = legal_planned c.args.self.now.state
    (changed (parts_of c.args.self.now.state.stores) c.args.change.stores) (answered c.args.change.stores)
    c.args.payload g.e faithful (search rules) (search rules)
