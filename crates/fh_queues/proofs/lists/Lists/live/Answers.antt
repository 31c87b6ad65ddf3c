use Rattle.std.proofs.Common.{arith, ◌≤◌, ap, length, length-append}
use Rattle.fh_queues.specs.Rows.{is_dead}
use Rattle.fh_queues.specs.Index.{slot_at, Skips}
use Rattle.fh_queues.proofs.Walks.{passed, passing, passed-step, passing-le, live-rest}
use Rattle.fh_queues.proofs.Indexes.{skips_due}
use Rattle.fh_queues.proofs.lists.Lists.live.Goals as goal

pub loop-at-preserved : goal.loop-at-preserved
loop-at-preserved c =
    let slots = c.args.self.now.slots.items in
    let p = is_dead c.args.m in
    let found = c.in-Some.ensures in
    let skips : Skips p slots c.loop-at.from c.in-Some.at = skips_due _ slots _ c.loop-at.from c.in-Some.at c.args.m c.requires.indexed found.2 in
    let step = passed-step p c.loop-at.from c.in-Some.at slots found.0 found.1 skips in
    let one : length (passing p (slot_at slots c.in-Some.at)) ≤ 1 = passing-le p (slot_at slots c.in-Some.at) in
    record {
      within = omega (arith, found.1);
      few = omega (arith, c.loop-at.invariant.few, found.0, one, c.count_dead-dead.ensures);
      dead = omega (arith, c.loop-at.invariant.dead, c.count_dead-dead.ensures, ap length step, length-append (passed p c.loop-at.from slots) (passing p (slot_at slots c.in-Some.at)));
    }

pub returns : goal.returns
returns c =
    let slots = c.args.self.now.slots.items in
    let skips = skips_due _ slots _ c.loop-at.from (length slots) c.args.m c.requires.indexed c.in_default.ensures in
    omega (arith, live-rest c.args.m c.loop-at.from slots c.loop-at.invariant.within skips, c.requires.count, c.loop-at.invariant.dead)

pub overflow_sub-result : goal.overflow_sub-result
overflow_sub-result c =
    let slots = c.args.self.now.slots.items in
    let skips = skips_due _ slots _ c.loop-at.from (length slots) c.args.m c.requires.indexed c.in_default.ensures in
    omega (arith, live-rest c.args.m c.loop-at.from slots c.loop-at.invariant.within skips, c.requires.count, c.loop-at.invariant.dead)
