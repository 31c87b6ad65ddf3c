use Rattle.std.proofs.Common.{arith, ◌+◌, List, length, sym, subst}
use Rattle.fh_queues.specs.declared.act.Which.{Which}
use Rattle.fh_queues.specs.declared.slot.Slot.{Slot}
use Rattle.fh_queues.specs.Acts.{is_one}
use Rattle.fh_queues.specs.Index.{Skips}
use Rattle.fh_queues.proofs.Sweeps.{Sweeps, sweeps-skip, sweeps-one, sweeps-end}
use Rattle.fh_queues.proofs.Indexes.{skips_due}
use Rattle.fh_queues.proofs.Keeping.{stays-trans}
use Rattle.fh_queues.proofs.lists.Lists.end_dead.Goals as goal

pub loop-at-preserved : goal.loop-at-preserved
loop-at-preserved c =
    let was = c.args.self.now.slots.items in
    let now = c.loop-at.self.slots.items in
    let test = is_one c.args.which.now in
    let found = c.in-Some.ensures in
    let skips : Skips test now c.loop-at.from c.in-Some.at = subst (λ (w : Which). Skips (is_one w) now c.loop-at.from c.in-Some.at) (sym c.requires.which) (skips_due _ now _ c.loop-at.from c.in-Some.at c.args.m c.loop-at.invariant.sound.indexed found.2) in
    let swept = sweeps-one test c.args.ending c.in-Some.at was now (sweeps-skip test c.args.ending c.loop-at.from c.in-Some.at was now c.loop-at.invariant.sweeps found.0 skips) found.1 in
    let after : Sweeps test c.args.ending (c.in-Some.at + 1) was c.end_at.new.self.slots.items = subst (λ (ss : List Slot). Sweeps test c.args.ending (c.in-Some.at + 1) was ss) (sym c.end_at.ensures.slots) swept in
    record {
      sound = record { indexed = c.end_at.ensures.sound.indexed; count = c.end_at.ensures.sound.count };
      within = omega (arith, found.1, after.same, c.loop-at.invariant.sweeps.same);
      sweeps = after;
      stays = stays-trans _ _ _ c.loop-at.invariant.stays c.end_at.ensures.stays;
    }

pub returns : goal.returns
returns c =
    let was = c.args.self.now.slots.items in
    let now = c.loop-at.self.slots.items in
    let test = is_one c.args.which.now in
    let skips : Skips test now c.loop-at.from (length now) = subst (λ (w : Which). Skips (is_one w) now c.loop-at.from (length now)) (sym c.requires.which) (skips_due _ now _ c.loop-at.from (length now) c.args.m c.loop-at.invariant.sound.indexed c.in_default.ensures) in
    record {
      slots = sweeps-end test c.args.ending was now (sweeps-skip test c.args.ending c.loop-at.from (length now) was now c.loop-at.invariant.sweeps c.loop-at.invariant.within skips);
      sound = c.loop-at.invariant.sound;
      stays = c.loop-at.invariant.stays;
    }
