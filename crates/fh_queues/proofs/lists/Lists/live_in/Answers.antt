use Rattle.std.proofs.Common.{arith, ◌≡◌, ◌+◌, ◌≤◌, length, sym, ap, ◌∙◌, length-append}
use Rattle.fh_queues.specs.Rows.{is_live, is_of}
use Rattle.fh_queues.specs.Lanes.{lane_of}
use Rattle.fh_queues.specs.Index.{kept, slot_at, live_of, Skips}
use Rattle.fh_queues.proofs.Indexes as indexes
use Rattle.fh_queues.proofs.Walks.{passed, passing, passed-step, passed-end, passing-le}
use Rattle.fh_queues.proofs.lists.Lists.live_in.Goals as goal
use Rattle.fh_queues.proofs.Filters.{filter-both}

pub loop-next-preserved : goal.loop-next-preserved
loop-next-preserved c =
    let slots = c.args.self.now.slots.items in
    let queue = c.args.queue.now in
    let p = live_of queue c.args.m in
    let lane = lane_of queue c.args.self.now.lanes in
    let from = c.loop-next.from in
    let place = c.in-Some.next.place in
    let slot = c.in-Some.next.slot in
    let found = c.in-Some.ensures.next in
    let facts = indexes.slot_next _ slots _ c.requires.indexed p queue 18446744073709551614 (indexes.reaches_live queue c.args.m) from place slot found.0 found.1 found.2 in
    let skips : Skips p slots (indexes.seen_in lane from) slot = indexes.skips_next _ slots _ c.requires.indexed p queue 18446744073709551614 (indexes.reaches_live queue c.args.m) from place slot found.0 found.1 found.2 found.3 in
    let step = passed-step p (indexes.seen_in lane from) slot slots facts.0 facts.1 skips in
    let one : length (passing p (slot_at slots slot)) ≤ 1 = passing-le p (slot_at slots slot) in
    let whole : length (passed p (indexes.seen_in lane (place + 1)) slots) ≡ length (passed p (slot + 1) slots) = ap (λ n. length (passed p n slots)) facts.2 in
    record {
      within = omega (arith, found.1);
      count = omega (arith, c.loop-next.invariant.count, c.count_live-count.ensures, whole, ap length step, length-append (passed p (indexes.seen_in lane from) slots) (passing p (slot_at slots slot)));
      few = omega (arith, c.loop-next.invariant.few, facts.0, facts.2, one, c.count_live-count.ensures);
    }

pub returns : goal.returns
returns c =
    let slots = c.args.self.now.slots.items in
    let queue = c.args.queue.now in
    let p = live_of queue c.args.m in
    let lane = lane_of queue c.args.self.now.lanes in
    let from = c.loop-next.from in
    let skips = indexes.skips_rest _ slots _ c.requires.indexed p queue 18446744073709551614 (indexes.reaches_live queue c.args.m) from c.loop-next.invariant.within c.in_default.ensures.next in
    c.loop-next.invariant.count
    ∙ ap length (passed-end p (indexes.seen_in lane from) slots (indexes.seen-le (length slots) lane (c.requires.indexed.lanes queue) from c.loop-next.invariant.within) skips)
    ∙ ap length (sym (filter-both (is_of queue) (is_live c.args.m) (kept slots)))
