use Rattle.std.proofs.Common.{arith, ◌≡◌, ◌++◌, ℕ, length, sym, ap, ◌∙◌, subst}
use Rattle.std.specs.Prelude.{option_copied, option_to_list}
use Rattle.std.proofs.lemmas.List.{length-map}
use Rattle.fh_queues.specs.Rows.{is_visible}
use Rattle.fh_queues.specs.Lanes.{lane_of}
use Rattle.fh_queues.specs.Index.{Skips}
use Rattle.fh_minima.specs.Tower.{AreAbove}
use Rattle.fh_queues.proofs.Indexes as indexes
use Rattle.fh_queues.proofs.Walks.{passed, passed-step, passed-full, chosen-all}
use Rattle.fh_queues.proofs.lists.Lists.chosen.Goals as goal

pub loop-m-preserved : goal.loop-m-preserved
loop-m-preserved c =
    let slots = c.args.self.now.slots.items in
    let queue = c.args.queue.now in
    let p = is_visible queue c.args.m in
    let lane = lane_of queue c.args.self.now.lanes in
    let from = c.loop-m.from in
    let place = c.in-Some.next.place in
    let slot = c.in-Some.next.slot in
    let found = c.in-Some.ensures.next in
    let facts = indexes.slot_next _ slots _ c.requires.indexed p queue c.args.m (indexes.reaches_visible queue c.args.m) from place slot found.0 found.1 found.2 in
    let skips : Skips p slots (indexes.seen_in lane from) slot = indexes.skips_next _ slots _ c.requires.indexed p queue c.args.m (indexes.reaches_visible queue c.args.m) from place slot found.0 found.1 found.2 (subst (λ (n : ℕ). AreAbove lane.keys from place n) c.ms.ensures.number found.3) in
    let step = passed-step p (indexes.seen_in lane from) slot slots facts.0 facts.1 skips in
    record {
      within = omega (arith, found.1);
      found = c.in_ok-push_some.ensures.rows ∙ ap (λ rows. rows ++ option_to_list (option_copied c.visible_at.result)) c.loop-m.invariant.found ∙ ap (λ rows. passed p (indexes.seen_in lane from) slots ++ rows) c.visible_at.ensures ∙ sym step ∙ ap (λ n. passed p n slots) (sym facts.2);
      few = omega (arith, c.push_some.ensures.few, c.loop-m.invariant.few);
    }

pub returns-in_default : goal.returns-in_default
returns-in_default c =
    let slots = c.args.self.now.slots.items in
    let queue = c.args.queue.now in
    let p = is_visible queue c.args.m in
    let lane = lane_of queue c.args.self.now.lanes in
    let from = c.loop-m.from in
    let skips = indexes.skips_rest _ slots _ c.requires.indexed p queue c.args.m (indexes.reaches_visible queue c.args.m) from c.loop-m.invariant.within (subst (λ (n : ℕ). AreAbove lane.keys from (length lane.numbers) n) c.ms.ensures.number c.in_default.ensures.next) in
    chosen-all p c.args.count (indexes.seen_in lane from) slots _ c.loop-m.invariant.found (simp length-map (omega (arith, c.loop-m.invariant.few))) (indexes.seen-le (length slots) lane (c.requires.indexed.lanes queue) from c.loop-m.invariant.within) skips

pub returns : goal.returns
returns c =
    let slots = c.args.self.now.slots.items in
    let lane = lane_of c.args.queue.now c.args.self.now.lanes in
    let p = is_visible c.args.queue.now c.args.m in
    let full : length (passed p (indexes.seen_in lane c.loop-m.from) slots) ≡ c.args.count = sym (ap length c.loop-m.invariant.found) ∙ simp length-map (omega (arith, c.loop-m.invariant.few)) in
    c.loop-m.invariant.found ∙ sym (passed-full p c.args.count (indexes.seen_in lane c.loop-m.from) slots full)
