use Rattle.std.proofs.Common.{arith, ◌<◌, ◌≡◌, length, sym, ap}
use Rattle.fh_queues.specs.Edits.{QueueState}
use Rattle.fh_queues.specs.Index.{kept}
use Rattle.fh_queues.proofs.Filters.{store_rule-few}
use Rattle.fh_queues.proofs.queues.Queues.store_rule.Goals as goal

pub returns-then-self-lt-MOST_LIVE : goal.returns-then-self-lt-MOST_LIVE
returns-then-self-lt-MOST_LIVE c =
    let count : c.self.inside.lists.count ≡ length (kept c.self.inside.lists.slots.items) = c.self.invariant.1.count in
    let same : length (kept c.self.inside.lists.slots.items) ≡ length c.args.self.now.part.rows =
    ap (λ (s : QueueState). length s.part.rows) c.self.view_is in
    let few : length c.args.self.now.part.rows < 100000 = omega (arith, count, same) in
    sym (store_rule-few c.args.self.now.part c.args.m few)
