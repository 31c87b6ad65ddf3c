use Rattle.std.proofs.Common.{◌≡◌, arith, subst}
use Rattle.fh_queues.specs.Lanes.{LaneValue, no_lane, lane_of, IsReady}
use Rattle.fh_queues.proofs.Laning.{Finds, lane_of-none, found-lane, set-lane, set-other, set-order, set-queues}
use Rattle.fh_queues.proofs.lanes.Lanes.add.Goals as goal

pub add-requires : goal.add-requires
add-requires c =
    let found : Finds c.args.queue.now c.self.inside.lanes.items c.args.self.now c.in-Ok.at c.index_mut.result.now = record { ordered = c.self.invariant; same = c.self.view_is; sought = c.in-Ok.ensures; read = c.index_mut.ensures.value } in
    subst (IsReady 1) (found-lane found) c.requires

pub invariant_of-self : goal.invariant_of-self
invariant_of-self c =
    let found : Finds c.args.queue.now c.self.inside.lanes.items c.args.self.now c.in-Ok.at c.index_mut.result.now = record { ordered = c.self.invariant; same = c.self.view_is; sought = c.in-Ok.ensures; read = c.index_mut.ensures.value } in
    set-order found c.add.new.self c.add.ensures.name

pub returns-clause-numbers : goal.returns-clause-numbers
returns-clause-numbers c =
    let found : Finds c.args.queue.now c.self.inside.lanes.items c.args.self.now c.in-Ok.at c.index_mut.result.now = record { ordered = c.self.invariant; same = c.self.view_is; sought = c.in-Ok.ensures; read = c.index_mut.ensures.value } in
    rw (found-lane found, set-lane found c.add.new.self c.add.ensures.name) c.add.ensures.numbers

pub returns-clause-keys : goal.returns-clause-keys
returns-clause-keys c =
    let found : Finds c.args.queue.now c.self.inside.lanes.items c.args.self.now c.in-Ok.at c.index_mut.result.now = record { ordered = c.self.invariant; same = c.self.view_is; sought = c.in-Ok.ensures; read = c.index_mut.ensures.value } in
    rw (found-lane found, set-lane found c.add.new.self c.add.ensures.name) c.add.ensures.keys

pub returns-clause-room : goal.returns-clause-room
returns-clause-room c =
    let found : Finds c.args.queue.now c.self.inside.lanes.items c.args.self.now c.in-Ok.at c.index_mut.result.now = record { ordered = c.self.invariant; same = c.self.view_is; sought = c.in-Ok.ensures; read = c.index_mut.ensures.value } in
    rw (found-lane found, set-lane found c.add.new.self c.add.ensures.name) c.add.ensures.room

pub returns-clause-others : goal.returns-clause-others
returns-clause-others c name differ =
    let found : Finds c.args.queue.now c.self.inside.lanes.items c.args.self.now c.in-Ok.at c.index_mut.result.now = record { ordered = c.self.invariant; same = c.self.view_is; sought = c.in-Ok.ensures; read = c.index_mut.ensures.value } in
    set-other found c.add.new.self c.add.ensures.name name differ

pub returns-clause-queues : goal.returns-clause-queues
returns-clause-queues c =
    let found : Finds c.args.queue.now c.self.inside.lanes.items c.args.self.now c.in-Ok.at c.index_mut.result.now = record { ordered = c.self.invariant; same = c.self.view_is; sought = c.in-Ok.ensures; read = c.index_mut.ensures.value } in
    set-queues found c.add.new.self c.add.ensures.name c.add.ensures.made

pub returns-in_default-clause-numbers : goal.returns-in_default-clause-numbers
returns-in_default-clause-numbers c =
    let none : lane_of c.args.queue.now c.args.self.now ≡ no_lane = lane_of-none c.args.queue.now c.args.self.now c.in_default.field-0 c.in_default.ensures in
    absurd (omega (arith, (subst (λ (l : LaneValue). IsReady 1 l) none c.requires).room))

pub returns-in_default-clause-keys : goal.returns-in_default-clause-keys
returns-in_default-clause-keys c =
    let none : lane_of c.args.queue.now c.args.self.now ≡ no_lane = lane_of-none c.args.queue.now c.args.self.now c.in_default.field-0 c.in_default.ensures in
    absurd (omega (arith, (subst (λ (l : LaneValue). IsReady 1 l) none c.requires).room))

pub returns-in_default-clause-room : goal.returns-in_default-clause-room
returns-in_default-clause-room c =
    let none : lane_of c.args.queue.now c.args.self.now ≡ no_lane = lane_of-none c.args.queue.now c.args.self.now c.in_default.field-0 c.in_default.ensures in
    absurd (omega (arith, (subst (λ (l : LaneValue). IsReady 1 l) none c.requires).room))

pub returns-clause-place : goal.returns-clause-place
returns-clause-place c =
    let found : Finds c.args.queue.now c.self.inside.lanes.items c.args.self.now c.in-Ok.at c.index_mut.result.now = record { ordered = c.self.invariant; same = c.self.view_is; sought = c.in-Ok.ensures; read = c.index_mut.ensures.value } in
    rw (found-lane found) c.add.ensures.place

pub returns-in_default-clause-place : goal.returns-in_default-clause-place
returns-in_default-clause-place c =
    let none : lane_of c.args.queue.now c.args.self.now ≡ no_lane = lane_of-none c.args.queue.now c.args.self.now c.in_default.field-0 c.in_default.ensures in
    absurd (omega (arith, (subst (λ (l : LaneValue). IsReady 1 l) none c.requires).room))
