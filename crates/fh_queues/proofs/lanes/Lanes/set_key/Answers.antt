use Rattle.std.proofs.Common.{◌≡◌, ◌<◌, length, arith, sym, ap, ◌∙◌, subst}
use Rattle.std.specs.Prelude.{set}
use Rattle.fh_queues.specs.Lanes.{LaneValue, no_lane, name_of, lane_of}
use Rattle.fh_queues.proofs.Laning.{Finds, found-lane, lane_of-none, set-lane, set-other, set-order, set-queues}
use Rattle.fh_queues.proofs.lanes.Lanes.set_key.Goals as goal

pub set_key-requires : goal.set_key-requires
set_key-requires c =
    let found : Finds c.args.queue.now c.self.inside.lanes.items c.args.self.now c.in-Ok.at c.index_mut.result.now = record { ordered = c.self.invariant; same = c.self.view_is; sought = c.in-Ok.ensures; read = c.index_mut.ensures.value } in
    subst (λ (l : LaneValue). c.args.place < length l.keys) (found-lane found) c.requires

pub invariant_of-self : goal.invariant_of-self
invariant_of-self c =
    let found : Finds c.args.queue.now c.self.inside.lanes.items c.args.self.now c.in-Ok.at c.index_mut.result.now = record { ordered = c.self.invariant; same = c.self.view_is; sought = c.in-Ok.ensures; read = c.index_mut.ensures.value } in
    set-order found c.set_key.new.self (ap name_of c.set_key.ensures)

pub returns-in-Ok-clause-lane : goal.returns-in-Ok-clause-lane
returns-in-Ok-clause-lane c =
    let found : Finds c.args.queue.now c.self.inside.lanes.items c.args.self.now c.in-Ok.at c.index_mut.result.now = record { ordered = c.self.invariant; same = c.self.view_is; sought = c.in-Ok.ensures; read = c.index_mut.ensures.value } in
    set-lane found c.set_key.new.self (ap name_of c.set_key.ensures) ∙ c.set_key.ensures ∙ ap (λ (l : LaneValue). record l { keys = set l.keys c.args.place c.args.key }) (sym (found-lane found))

pub returns-in-Ok-clause-others : goal.returns-in-Ok-clause-others
returns-in-Ok-clause-others c name differ =
    let found : Finds c.args.queue.now c.self.inside.lanes.items c.args.self.now c.in-Ok.at c.index_mut.result.now = record { ordered = c.self.invariant; same = c.self.view_is; sought = c.in-Ok.ensures; read = c.index_mut.ensures.value } in
    set-other found c.set_key.new.self (ap name_of c.set_key.ensures) name differ

pub returns-in-Ok-clause-queues : goal.returns-in-Ok-clause-queues
returns-in-Ok-clause-queues c =
    let found : Finds c.args.queue.now c.self.inside.lanes.items c.args.self.now c.in-Ok.at c.index_mut.result.now = record { ordered = c.self.invariant; same = c.self.view_is; sought = c.in-Ok.ensures; read = c.index_mut.ensures.value } in
    set-queues found c.set_key.new.self (ap name_of c.set_key.ensures) (ap (λ (l : LaneValue). l.made) c.set_key.ensures)

pub returns-in_default-clause-lane : goal.returns-in_default-clause-lane
returns-in_default-clause-lane c =
    let none : lane_of c.args.queue.now c.args.self.now ≡ no_lane = lane_of-none c.args.queue.now c.args.self.now c.in_default.field-0 c.in_default.ensures in
    absurd (omega (arith, subst (λ (l : LaneValue). c.args.place < length l.keys) none c.requires))
