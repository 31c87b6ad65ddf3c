use Rattle.std.proofs.Common.{◌≡◌, arith, ap, subst}
use Rattle.fh_queues.specs.Lanes.{LaneValue, no_lane, name_of, lane_of, IsReady}
use Rattle.fh_queues.proofs.Laning.{Finds, lane_of-none, set-order, set-make, set-same_keys}
use Rattle.fh_queues.proofs.lanes.Lanes.make.Goals as goal

pub invariant_of-self : goal.invariant_of-self
invariant_of-self c =
    let found : Finds c.args.queue.now c.self.inside.lanes.items c.args.self.now c.in-Ok.at c.index_mut.result.now = record { ordered = c.self.invariant; same = c.self.view_is; sought = c.in-Ok.ensures; read = c.index_mut.ensures.value } in
    set-order found c.make.new.self (ap name_of c.make.ensures)

pub returns-in-Ok-clause-queues : goal.returns-in-Ok-clause-queues
returns-in-Ok-clause-queues c =
    let found : Finds c.args.queue.now c.self.inside.lanes.items c.args.self.now c.in-Ok.at c.index_mut.result.now = record { ordered = c.self.invariant; same = c.self.view_is; sought = c.in-Ok.ensures; read = c.index_mut.ensures.value } in
    set-make found c.make.new.self (ap name_of c.make.ensures) (ap (λ (l : LaneValue). l.made) c.make.ensures)

pub returns-in-Ok-clause-lanes : goal.returns-in-Ok-clause-lanes
returns-in-Ok-clause-lanes c name =
    let found : Finds c.args.queue.now c.self.inside.lanes.items c.args.self.now c.in-Ok.at c.index_mut.result.now = record { ordered = c.self.invariant; same = c.self.view_is; sought = c.in-Ok.ensures; read = c.index_mut.ensures.value } in
    set-same_keys found c.make.new.self (ap name_of c.make.ensures)
    (record { numbers = ap (λ (l : LaneValue). l.numbers) c.make.ensures; keys = ap (λ (l : LaneValue). l.keys) c.make.ensures; room = ap (λ (l : LaneValue). l.room) c.make.ensures })
    name

pub returns-in_default-clause-queues : goal.returns-in_default-clause-queues
returns-in_default-clause-queues c =
    let none : lane_of c.args.queue.now c.args.self.now ≡ no_lane = lane_of-none c.args.queue.now c.args.self.now c.in_default.field-0 c.in_default.ensures in
    absurd (omega (arith, (subst (λ (l : LaneValue). IsReady 1 l) none c.requires).room))
