use Rattle.std.proofs.Common.{◌≡◌, ◌-◌, ◌≤◌, length, arith, ap, ◌∙◌, subst}
use Rattle.fh_queues.specs.Lanes.{LaneValue, no_lane, lane_of}
use Rattle.fh_queues.proofs.Laning.{Finds, found-lane, lane_of-none}
use Rattle.fh_queues.proofs.lanes.Lanes.next_in.Goals as goal

pub returns-in_default-clause-next : goal.returns-in_default-clause-next
returns-in_default-clause-next c =
    let none : lane_of c.args.queue.now c.args.self.now ≡ no_lane = lane_of-none c.args.queue.now c.args.self.now c.in_default.field-0 c.in_default.ensures in
    rw none (λ i low high. absurd (omega arith))

pub first-requires : goal.first-requires
first-requires c =
    let found : Finds c.args.queue.now c.self.inside.lanes.items c.args.self.now c.in-Ok.at c.index-lane.result.now = record { ordered = c.self.invariant; same = c.self.view_is; sought = c.in-Ok.ensures; read = c.index-lane.ensures } in
    subst (λ (l : LaneValue). c.args.from ≤ length l.keys) (found-lane found) c.requires.from

pub returns-in_default-first-clause-next : goal.returns-in_default-first-clause-next
returns-in_default-first-clause-next c =
    let found : Finds c.args.queue.now c.self.inside.lanes.items c.args.self.now c.in-Ok.at c.index-lane.result.now = record { ordered = c.self.invariant; same = c.self.view_is; sought = c.in-Ok.ensures; read = c.index-lane.ensures } in
    let keyed : length c.index-lane.result.now.numbers ≤ length c.index-lane.result.now.keys = subst (λ (l : LaneValue). length l.numbers ≤ length l.keys) (found-lane found) c.requires.keyed in
    rw (found-lane found) (λ i low high. c.in_default-first.ensures i low (omega (arith, high, keyed)))

pub returns-then-len-place-clause-next : goal.returns-then-len-place-clause-next
returns-then-len-place-clause-next c =
    let found : Finds c.args.queue.now c.self.inside.lanes.items c.args.self.now c.in-Ok.at c.index-lane.result.now = record { ordered = c.self.invariant; same = c.self.view_is; sought = c.in-Ok.ensures; read = c.index-lane.ensures } in
    rw (found-lane found) (λ i low high. c.in-Some.ensures.3 i low (omega (arith, high)))

pub returns-clause-next : goal.returns-clause-next
returns-clause-next c =
    let found : Finds c.args.queue.now c.self.inside.lanes.items c.args.self.now c.in-Ok.at c.index-lane.result.now = record { ordered = c.self.invariant; same = c.self.view_is; sought = c.in-Ok.ensures; read = c.index-lane.ensures } in
    rw (found-lane found) (c.in-Some.ensures.0, omega arith, c.saturating_sub.ensures ∙ ap (λ n. n - 1) c.number-number.ensures, c.in-Some.ensures.3)
