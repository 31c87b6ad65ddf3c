use Rattle.std.proofs.Common.{arith, ◌≡◌, map, take}
use Rattle.std.proofs.lemmas.Grind.{common_steps}
use Rattle.fh_queues.specs.Rows.{is_visible, visible}
use Rattle.fh_queues.specs.Whole.{is_counted}
use Rattle.fh_queues.specs.Index.{kept}
use Rattle.fh_queues.proofs.Filters.{list_all-filter, list_all-take}
use Rattle.fh_queues.proofs.queues.Queues.plan_take.Goals as goal

pub taken_items-requires-clause-counts : goal.taken_items-requires-clause-counts
taken_items-requires-clause-counts c =
    let rows = kept c.self.inside.lists.slots.items in
    let listed : map (λ row. row.now) c.deref.result.now ≡ take c.args.count (visible c.args.queue.now c.args.m rows) =
    grind (arith, common_steps) in
    let all = list_all-filter (is_visible c.args.queue.now c.args.m)
    (is_counted c.self.inside.lists.next_receipt) rows c.self.invariant.0.counted in
    rw listed (list_all-take (is_counted c.self.inside.lists.next_receipt) c.args.count
    (visible c.args.queue.now c.args.m rows) all)
