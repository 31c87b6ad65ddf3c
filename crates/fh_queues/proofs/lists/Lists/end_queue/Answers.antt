use Rattle.std.proofs.Common.{arith, ◌≡◌, ◌+◌, ℕ, List, length, sym, ap, ◌∙◌, subst}
use Rattle.fh_queues.specs.declared.slot.Slot.{Slot}
use Rattle.fh_queues.specs.declared.act.Which.{Which}
use Rattle.fh_queues.specs.Rows.{is_of}
use Rattle.fh_queues.specs.Acts.{is_one}
use Rattle.fh_queues.specs.Lanes.{lane_of}
use Rattle.fh_queues.specs.Index.{Skips}
use Rattle.fh_queues.proofs.Indexes as indexes
use Rattle.fh_queues.proofs.Sweeps.{Sweeps, sweeps-skip, sweeps-one, sweeps-end}
use Rattle.fh_queues.proofs.Keeping as keeping
use Rattle.fh_queues.proofs.lists.Lists.end_queue.Goals as goal

pub next_in-requires-clause-from : goal.next_in-requires-clause-from
next_in-requires-clause-from c = omega (arith, c.loop-next.invariant.within, (c.loop-next.invariant.sound.indexed.lanes c.args.queue.now).keyed)

pub next_in-requires-clause-keyed : goal.next_in-requires-clause-keyed
next_in-requires-clause-keyed c = (c.loop-next.invariant.sound.indexed.lanes c.args.queue.now).keyed

pub end_at-requires-clause-within : goal.end_at-requires-clause-within
end_at-requires-clause-within c =
    let found = c.in-Some.ensures.next in
    (indexes.slot_next _ c.loop-next.self.slots.items _ c.loop-next.invariant.sound.indexed (is_of c.args.queue.now) c.args.queue.now 18446744073709551614 (indexes.reaches_queue c.args.queue.now) c.loop-next.from c.in-Some.next.place c.in-Some.next.slot found.0 found.1 found.2).1

pub loop-next-preserved : goal.loop-next-preserved
loop-next-preserved c =
    let was = c.args.self.now.slots.items in
    let now = c.loop-next.self.slots.items in
    let queue = c.args.queue.now in
    let test = is_one c.args.which.now in
    let lane = lane_of queue c.loop-next.self.lanes in
    let new = lane_of queue c.end_at.new.self.lanes in
    let from = c.loop-next.from in
    let place = c.in-Some.next.place in
    let slot = c.in-Some.next.slot in
    let found = c.in-Some.ensures.next in
    let sound = c.loop-next.invariant.sound in
    let facts = indexes.slot_next _ now _ sound.indexed (is_of queue) queue 18446744073709551614 (indexes.reaches_queue queue) from place slot found.0 found.1 found.2 in
    let skips : Skips test now (indexes.seen_in lane from) slot = subst (λ (w : Which). Skips (is_one w) now (indexes.seen_in lane from) slot) (sym c.requires.which) (indexes.skips_next _ now _ sound.indexed (is_of queue) queue 18446744073709551614 (indexes.reaches_queue queue) from place slot found.0 found.1 found.2 found.3) in
    let swept = sweeps-one test c.args.ending slot was now (sweeps-skip test c.args.ending (indexes.seen_in lane from) slot was now c.loop-next.invariant.sweeps facts.0 skips) facts.1 in
    let after : Sweeps test c.args.ending (slot + 1) was c.end_at.new.self.slots.items = subst (λ (ss : List Slot). Sweeps test c.args.ending (slot + 1) was ss) (sym c.end_at.ensures.slots) swept in
    let seen : indexes.seen_in new (place + 1) ≡ slot + 1 = indexes.seen-same lane new (place + 1) (c.end_at.ensures.stays.numbers queue) ∙ facts.2 in
    record {
      sound = record { indexed = c.end_at.ensures.sound.indexed; count = c.end_at.ensures.sound.count };
      within = omega (arith, found.1, ap length (c.end_at.ensures.stays.numbers queue));
      sweeps = subst (λ (n : ℕ). Sweeps test c.args.ending n was c.end_at.new.self.slots.items) (sym seen) after;
      stays = keeping.stays-trans _ _ _ c.loop-next.invariant.stays c.end_at.ensures.stays;
    }

pub returns : goal.returns
returns c =
    let was = c.args.self.now.slots.items in
    let now = c.loop-next.self.slots.items in
    let queue = c.args.queue.now in
    let test = is_one c.args.which.now in
    let lane = lane_of queue c.loop-next.self.lanes in
    let from = c.loop-next.from in
    let sound = c.loop-next.invariant.sound in
    let skips : Skips test now (indexes.seen_in lane from) (length now) = subst (λ (w : Which). Skips (is_one w) now (indexes.seen_in lane from) (length now)) (sym c.requires.which) (indexes.skips_rest _ now _ sound.indexed (is_of queue) queue 18446744073709551614 (indexes.reaches_queue queue) from c.loop-next.invariant.within c.in_default.ensures.next) in
    record {
      slots = sweeps-end test c.args.ending was now (sweeps-skip test c.args.ending (indexes.seen_in lane from) (length now) was now c.loop-next.invariant.sweeps (indexes.seen-le (length now) lane (sound.indexed.lanes queue) from c.loop-next.invariant.within) skips);
      sound = record { indexed = sound.indexed; count = sound.count };
      stays = c.loop-next.invariant.stays;
    }
