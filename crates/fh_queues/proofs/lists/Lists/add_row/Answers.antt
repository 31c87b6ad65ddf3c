use Rattle.std.proofs.Common.{arith, ◌≡◌, ◌+◌, ◌<◌, ◌++◌, ◌∷◌, [], ℕ, List, length, sym, ap, ◌∙◌, subst}
use Rattle.std.specs.Prelude.{set, get_or, slice_index, None}
use Rattle.std.proofs.lemmas.Grind.{common_steps}
use Rattle.std.proofs.lemmas.List.{get_or-set_same, get_or-set_other, length-set, length_push}
use Rattle.fh_queues.specs.declared.row.Message.{Message}
use Rattle.fh_queues.specs.declared.slot.Slot.{Slot}
use Rattle.fh_queues.specs.declared.slot.Slot.TheVariants.{Row}
use Rattle.fh_queues.specs.Acts.{numbered}
use Rattle.fh_queues.specs.Lanes.{lane_of, IsReady}
use Rattle.fh_queues.specs.Index.{kept, ends_of, IsIndexed}
use Rattle.fh_queues.proofs.Indexes as indexes
use Rattle.fh_queues.proofs.Slots as rows_at
use Rattle.fh_queues.proofs.Keeping as keeping
use Rattle.fh_queues.proofs.lists.Lists.add_row.Goals as goal

pub overflow_add-self : goal.overflow_add-self
overflow_add-self c = omega (arith, c.requires.sound.count, rows_at.length-kept c.args.self.now.slots.items, c.requires.numbers)

pub returns-clause-part : goal.returns-clause-part
returns-clause-part c =
    let slots = c.args.self.now.slots.items in
    let new = Row c.row_of-row.result c.add-place.result in
    let after : c.push-added.new.self.items ≡ slots ++ new ∷ [] = grind (arith, common_steps, c.requires.room.slots) in
    let rows : kept c.push-added.new.self.items ≡ kept slots ++ c.row_of-row.result ∷ [] = ap kept after ∙ rows_at.kept-append slots (new ∷ []) in
    let ends : ends_of c.push-added.new.self.items ≡ ends_of slots ++ None ∷ [] = ap ends_of after ∙ rows_at.ends-append slots (new ∷ []) in
    let more : length c.push-added.new.self.items ≡ length slots + 1 = ap length after ∙ length_push slots new in
    let row : c.row_of-row.result ≡ numbered (length slots + 1) c.args.self.now.next_receipt c.args.new = c.row_of-row.ensures ∙ ap (λ n. numbered n c.args.self.now.next_receipt c.args.new) c.next_number.ensures in
    grind (arith, rows, ends, more, row, c.add-place.ensures.queues)

pub returns-clause-sound : goal.returns-clause-sound
returns-clause-sound c =
    let slots = c.args.self.now.slots.items in
    let lanes = c.args.self.now.lanes in
    let expiries = c.args.self.now.expiries in
    let row = c.row_of-row.result in
    let new = Row row c.add-place.result in
    let room = c.requires.room in
    let queue : row.queue ≡ c.args.new.queue = ap (λ (r : Message). r.queue) c.row_of-row.ensures in
    let number : row.number ≡ length slots + 1 = ap (λ (r : Message). r.number) c.row_of-row.ensures ∙ c.next_number.ensures in
    let after : c.push-added.new.self.items ≡ slots ++ new ∷ [] = grind (arith, common_steps, room.slots) in
    let rows : kept c.push-added.new.self.items ≡ kept slots ++ row ∷ [] = ap kept after ∙ rows_at.kept-append slots (new ∷ []) in
    let len : c.len.result ≡ length slots = grind (arith, common_steps) in
    let keys : c.set.new.self ≡ set expiries (length slots) c.expiry_key.result = c.set.ensures ∙ ap (λ (n : ℕ). set expiries n c.expiry_key.result) len in
    let fits : length slots < length expiries = omega (arith, room.expiries) in
    let key : slice_index c.set.new.self (length slots) ≡ c.expiry_key.result = ap (λ (ks : List ℕ). slice_index ks (length slots)) keys ∙ get_or-set_same expiries (length slots) c.expiry_key.result 0 fits in
    let indexed = indexes.indexed-put (λ name. lane_of name lanes) (λ name. lane_of name c.add-place.new.self) slots expiries c.set.new.self row c.add-place.result c.key_of.result c.requires.sound.indexed number
    (subst (λ (q : List ℕ). IsReady 1 (lane_of q lanes)) (sym queue) c.requires.ready)
    c.add-place.ensures.place c.add-place.ensures.numbers c.add-place.ensures.keys c.add-place.ensures.others c.key_of.ensures.early c.key_of.ensures.stands fits
    (ap length keys ∙ length-set expiries (length slots) c.expiry_key.result)
    (λ i differ. ap (λ (ks : List ℕ). get_or ks i 0) keys ∙ get_or-set_other expiries (length slots) i c.expiry_key.result 0 differ)
    (rw key c.expiry_key.ensures) in
    record {
      indexed = subst (λ (ss : List Slot). IsIndexed (λ name. lane_of name c.add-place.new.self) ss c.set.new.self) (sym after) indexed;
      count = omega (arith, c.requires.sound.count, ap length rows, length_push (kept slots) row);
    }

pub returns-clause-ready : goal.returns-clause-ready
returns-clause-ready c k name =
    keeping.ready-add c.row_of-row.result.queue c.args.self.now.lanes c.add-place.new.self c.row_of-row.result.number c.key_of.result c.add-place.ensures.numbers c.add-place.ensures.keys c.add-place.ensures.room c.add-place.ensures.others k name
