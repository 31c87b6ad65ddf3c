use Rattle.std.proofs.Common.{◌≡◌, List, map, sym, ap, ◌∙◌, subst}
use Rattle.std.specs.Prelude.{Err}
use Rattle.std.specs.List.{insert}
use Rattle.fh_queues.specs.Order.{are_in_order}
use Rattle.fh_queues.specs.Lanes.{LaneValue, name_of, lane_of, IsSought, Grows}
use Rattle.fh_queues.proofs.Laning.{Finds, set-lane, set-grows, set-order, insert-grows, lane_of-insert, in_order-insert}
use Rattle.fh_queues.proofs.lanes.Lanes.reserve.Goals as goal

pub invariant_of-self : goal.invariant_of-self
invariant_of-self c =
    let found : Finds c.args.queue.now c.self.inside.lanes.items c.args.self.now c.in-Ok.at c.index_mut.result.now = record { ordered = c.self.invariant; same = c.self.view_is; sought = c.in-Ok.ensures; read = c.index_mut.ensures.value } in
    set-order found c.reserve.new.self c.reserve.ensures.grows.name

pub invariant_of-self-in-Err : goal.invariant_of-self-in-Err
invariant_of-self-in-Err c =
    let sought : IsSought c.args.queue.now c.self.inside.lanes.items (Err c.in-Err.at) = subst (λ (ls : List LaneValue). IsSought c.args.queue.now ls (Err c.in-Err.at)) (sym c.self.view_is) c.in-Err.ensures in
    let grown = c.in_ok-reserve-in-Err.ensures.grows in
    let named : c.reserve-in-Err.new.self.name ≡ c.args.queue.now = grown.name ∙ c.new-lane.ensures.name ∙ c.in_ok-name-in-Err.ensures in
    let after : c.insert.new.self.items ≡ insert c.self.inside.lanes.items c.in-Err.at c.reserve-in-Err.new.self = c.in_ok-insert-in-Err.ensures.items in
    ap (λ (ls : List LaneValue). are_in_order (map name_of ls)) after ∙ in_order-insert c.args.queue.now c.self.inside.lanes.items c.in-Err.at c.reserve-in-Err.new.self c.self.invariant sought named

pub returns-in-Ok-clause-grows : goal.returns-in-Ok-clause-grows
returns-in-Ok-clause-grows c =
    let found : Finds c.args.queue.now c.self.inside.lanes.items c.args.self.now c.in-Ok.at c.index_mut.result.now = record { ordered = c.self.invariant; same = c.self.view_is; sought = c.in-Ok.ensures; read = c.index_mut.ensures.value } in
    set-grows found c.reserve.new.self c.reserve.ensures.grows.name c.reserve.ensures.grows

pub returns-in-Ok-clause-ready : goal.returns-in-Ok-clause-ready
returns-in-Ok-clause-ready c =
    let found : Finds c.args.queue.now c.self.inside.lanes.items c.args.self.now c.in-Ok.at c.index_mut.result.now = record { ordered = c.self.invariant; same = c.self.view_is; sought = c.in-Ok.ensures; read = c.index_mut.ensures.value } in
    rw (set-lane found c.reserve.new.self c.reserve.ensures.grows.name) c.reserve.ensures.ready

pub returns-in_ok-insert-in-Err-clause-grows : goal.returns-in_ok-insert-in-Err-clause-grows
returns-in_ok-insert-in-Err-clause-grows c =
    let sought : IsSought c.args.queue.now c.self.inside.lanes.items (Err c.in-Err.at) = subst (λ (ls : List LaneValue). IsSought c.args.queue.now ls (Err c.in-Err.at)) (sym c.self.view_is) c.in-Err.ensures in
    let grown = c.in_ok-reserve-in-Err.ensures.grows in
    let named : c.reserve-in-Err.new.self.name ≡ c.args.queue.now = grown.name ∙ c.new-lane.ensures.name ∙ c.in_ok-name-in-Err.ensures in
    let after : c.insert.new.self.items ≡ insert c.self.inside.lanes.items c.in-Err.at c.reserve-in-Err.new.self = c.in_ok-insert-in-Err.ensures.items in
    subst (λ (ls : List LaneValue). Grows ls c.insert.new.self.items) c.self.view_is
    (rw after (insert-grows c.args.queue.now c.self.inside.lanes.items c.in-Err.at c.reserve-in-Err.new.self sought named (grown.made ∙ c.new-lane.ensures.made) (grown.numbers ∙ c.new-lane.ensures.numbers)))

pub returns-in_ok-insert-in-Err-clause-ready : goal.returns-in_ok-insert-in-Err-clause-ready
returns-in_ok-insert-in-Err-clause-ready c =
    let sought : IsSought c.args.queue.now c.self.inside.lanes.items (Err c.in-Err.at) = subst (λ (ls : List LaneValue). IsSought c.args.queue.now ls (Err c.in-Err.at)) (sym c.self.view_is) c.in-Err.ensures in
    let grown = c.in_ok-reserve-in-Err.ensures.grows in
    let named : c.reserve-in-Err.new.self.name ≡ c.args.queue.now = grown.name ∙ c.new-lane.ensures.name ∙ c.in_ok-name-in-Err.ensures in
    let after : c.insert.new.self.items ≡ insert c.self.inside.lanes.items c.in-Err.at c.reserve-in-Err.new.self = c.in_ok-insert-in-Err.ensures.items in
    let lane : lane_of c.args.queue.now c.insert.new.self.items ≡ c.reserve-in-Err.new.self = ap (lane_of c.args.queue.now) after ∙ lane_of-insert c.args.queue.now c.self.inside.lanes.items c.in-Err.at c.reserve-in-Err.new.self sought named in
    rw lane c.in_ok-reserve-in-Err.ensures.ready
