use Rattle.std.proofs.Common.{◌≡◌, sym, ap, ◌∙◌, subst, List}
use Rattle.std.specs.Prelude.{Ok}
use Rattle.std.proofs.lemmas.List.{get_or_read}
use Rattle.fh_queues.specs.Part.{has_queue}
use Rattle.fh_queues.specs.Lanes.{LaneValue, no_lane, queues_of, IsSought}
use Rattle.fh_queues.proofs.Laning.{has_queue-none, has_queue-at}
use Rattle.fh_queues.proofs.lanes.Lanes.has_queue.Goals as goal

pub returns-in-Ok : goal.returns-in-Ok
returns-in-Ok c =
    let lanes = c.self.inside.lanes.items in
    let name = c.args.queue.now in
    let found : IsSought name lanes (Ok c.in-Ok.at) = subst (λ (ls : List LaneValue). IsSought name ls (Ok c.in-Ok.at)) (sym c.self.view_is) c.in-Ok.ensures in
    let read : c.index.result.now ≡ _ = get_or_read lanes c.in-Ok.at c.index.result.now found.0 c.index.ensures no_lane in
    c.is_made.ensures ∙ ap (λ (lane : LaneValue). lane.made) read
    ∙ sym (has_queue-at name lanes c.in-Ok.at c.self.invariant found.0 (found.1 no_lane))
    ∙ ap (λ (ls : List LaneValue). has_queue (queues_of ls) name) c.self.view_is

pub returns-in-Err : goal.returns-in-Err
returns-in-Err c = sym (has_queue-none c.args.queue.now c.args.self.now c.in-Err.field-0 c.in-Err.ensures)
