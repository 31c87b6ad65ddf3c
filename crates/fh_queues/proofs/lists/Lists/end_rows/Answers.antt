use Rattle.std.proofs.Common.{arith, ◌≡◌, length, filter, fold, sym, ap, ◌∙◌}
use Rattle.std.specs.Prelude.{not}
use Rattle.std.proofs.lemmas.List.{length-map}
use Rattle.fh_queues.specs.Acts.{is_one, with_end}
use Rattle.fh_queues.specs.Index.{kept, ends_of, ended_slot}
use Rattle.fh_queues.proofs.Indexes as indexes
use Rattle.fh_queues.proofs.Slots as rows_at
use Rattle.fh_queues.proofs.Keeping as keeping
use Rattle.fh_queues.proofs.lists.Lists.end_rows.Goals as goal

pub returns-in-Dead-clause-part : goal.returns-in-Dead-clause-part
returns-in-Dead-clause-part c =
    let slots = c.args.self.now.slots.items in
    let test = is_one c.args.which.now in
    let ends = c.end_dead.ensures in
    let rows : kept c.end_dead.new.self.slots.items ≡ filter (λ row. not (test row)) (kept slots) = ap kept ends.slots ∙ rows_at.kept-ended test c.args.ending slots in
    let noted : ends_of c.end_dead.new.self.slots.items ≡ fold (with_end c.args.ending) (ends_of slots) (filter test (kept slots)) = ap ends_of ends.slots ∙ sym (rows_at.ends-ended test c.args.ending slots (indexes.numbered _ slots _ c.requires.indexed)) in
    let long : length c.end_dead.new.self.slots.items ≡ length slots = ap length ends.slots ∙ length-map slots (ended_slot test c.args.ending) in
    grind (arith, rows, noted, long, ends.stays.queues, ends.stays.receipt)

pub returns-in-Dead-clause-ready : goal.returns-in-Dead-clause-ready
returns-in-Dead-clause-ready c k name = keeping.ready-stays k name c.args.self.now c.end_dead.new.self c.end_dead.ensures.stays

pub returns-in-InQueue-clause-part : goal.returns-in-InQueue-clause-part
returns-in-InQueue-clause-part c =
    let slots = c.args.self.now.slots.items in
    let test = is_one c.args.which.now in
    let ends = c.end_queue.ensures in
    let rows : kept c.end_queue.new.self.slots.items ≡ filter (λ row. not (test row)) (kept slots) = ap kept ends.slots ∙ rows_at.kept-ended test c.args.ending slots in
    let noted : ends_of c.end_queue.new.self.slots.items ≡ fold (with_end c.args.ending) (ends_of slots) (filter test (kept slots)) = ap ends_of ends.slots ∙ sym (rows_at.ends-ended test c.args.ending slots (indexes.numbered _ slots _ c.requires.indexed)) in
    let long : length c.end_queue.new.self.slots.items ≡ length slots = ap length ends.slots ∙ length-map slots (ended_slot test c.args.ending) in
    grind (arith, rows, noted, long, ends.stays.queues, ends.stays.receipt)

pub returns-in-InQueue-clause-ready : goal.returns-in-InQueue-clause-ready
returns-in-InQueue-clause-ready c k name = keeping.ready-stays k name c.args.self.now c.end_queue.new.self c.end_queue.ensures.stays

pub returns-in-Numbered-clause-part : goal.returns-in-Numbered-clause-part
returns-in-Numbered-clause-part c =
    let slots = c.args.self.now.slots.items in
    let test = is_one c.args.which.now in
    let ends = c.end_one.ensures in
    let rows : kept c.end_one.new.self.slots.items ≡ filter (λ row. not (test row)) (kept slots) = ap kept ends.slots ∙ rows_at.kept-ended test c.args.ending slots in
    let noted : ends_of c.end_one.new.self.slots.items ≡ fold (with_end c.args.ending) (ends_of slots) (filter test (kept slots)) = ap ends_of ends.slots ∙ sym (rows_at.ends-ended test c.args.ending slots (indexes.numbered _ slots _ c.requires.indexed)) in
    let long : length c.end_one.new.self.slots.items ≡ length slots = ap length ends.slots ∙ length-map slots (ended_slot test c.args.ending) in
    grind (arith, rows, noted, long, ends.stays.queues, ends.stays.receipt)

pub returns-in-Numbered-clause-ready : goal.returns-in-Numbered-clause-ready
returns-in-Numbered-clause-ready c k name = keeping.ready-stays k name c.args.self.now c.end_one.new.self c.end_one.ensures.stays
