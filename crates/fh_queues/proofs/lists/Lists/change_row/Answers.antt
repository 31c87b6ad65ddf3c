use Rattle.std.proofs.Common.{arith, ◌≡◌, ◌-◌, ◌<◌, ◌≤◌, ◌^◌, ℕ, List, false, refl, length, sym, ap, ◌∙◌, subst}
use Rattle.std.specs.Prelude.{set, slice_index}
use Rattle.std.specs.Str.{bytes_eq}
use Rattle.std.proofs.lemmas.List.{get_or_read, length-set, set-get_or}
use Rattle.fh_queues.specs.declared.row.Message.{Message}
use Rattle.fh_queues.specs.declared.done.Ending.TheVariants.{Expired}
use Rattle.fh_queues.specs.declared.slot.Slot.{Slot}
use Rattle.fh_queues.specs.declared.slot.Slot.TheVariants.{Row, Ended}
use Rattle.fh_queues.specs.Rows.{with_change}
use Rattle.fh_queues.specs.Acts.{changed}
use Rattle.fh_queues.specs.Lanes.{LaneValue, lane_of}
use Rattle.fh_queues.specs.Index.{kept, ends_of, slot_at, IsIndexed, IsNoLater}
use Rattle.fh_queues.proofs.Indexes as indexes
use Rattle.fh_queues.proofs.Slots as rows_at
use Rattle.fh_queues.proofs.lists.Lists.change_row.Goals as goal

pub returns-in_default-clause-part : goal.returns-in_default-clause-part
returns-in_default-clause-part c =
    let slots = c.args.self.now.slots.items in
    let anew : Message → Message = changed c.args.self.now.next_receipt c.args.change in
    let same = rows_at.with_change-none c.args.number anew slots (rows_at.none_beyond c.args.number slots (indexes.numbered _ slots _ c.requires.sound.indexed) c.in_default.ensures) in
    grind (arith, same)

pub set_key-requires : goal.set_key-requires
set_key-requires c =
    let slots = c.args.self.now.slots.items in
    let number = c.args.number in
    let at = c.in-Some.at in
    let anew : Message → Message = changed c.args.self.now.next_receipt c.args.change in
    let read : c.index_mut.result.now ≡ slot_at slots at = get_or_read slots at c.index_mut.result.now c.in-Some.ensures.1 c.index_mut.ensures.value (Ended Expired) in
    let row = c.in-Row.row in
    let place = c.in-Row.place in
    let stands : slot_at slots at ≡ Row row place = cc in
    let lanes = c.args.self.now.lanes in
    let after = c.change_row.new.row in
    let queue : after.queue ≡ row.queue = ap (λ (r : Message). r.queue) c.change_row.ensures in
    let listed = c.requires.sound.indexed.rows at row place stands in
    let fits : place < length (lane_of row.queue lanes).keys = omega (arith, listed.within, (c.requires.sound.indexed.lanes row.queue).keyed) in
    subst (λ (q : List ℕ). place < length (lane_of q lanes).keys) (sym queue) fits

pub returns-in-Row-clause-part : goal.returns-in-Row-clause-part
returns-in-Row-clause-part c =
    let slots = c.args.self.now.slots.items in
    let number = c.args.number in
    let at = c.in-Some.at in
    let anew : Message → Message = changed c.args.self.now.next_receipt c.args.change in
    let read : c.index_mut.result.now ≡ slot_at slots at = get_or_read slots at c.index_mut.result.now c.in-Some.ensures.1 c.index_mut.ensures.value (Ended Expired) in
    let row = c.in-Row.row in
    let place = c.in-Row.place in
    let stands : slot_at slots at ≡ Row row place = cc in
    let lanes = c.args.self.now.lanes in
    let after = c.change_row.new.row in
    let queue : after.queue ≡ row.queue = ap (λ (r : Message). r.queue) c.change_row.ensures in
    let rows : kept (set slots at (Row after place)) ≡ with_change number anew (kept slots) =
    ap (λ (r : Message). kept (set slots at (Row r place))) c.change_row.ensures
    ∙ sym (rows_at.with_change-at 0 number at anew slots row place (indexes.numbered _ slots _ c.requires.sound.indexed) (omega (arith, c.in-Some.ensures.0)) stands) in
    let ends : ends_of (set slots at (Row after place)) ≡ ends_of slots = rows_at.ends-change at slots row after place stands in
    let long : length (set slots at (Row after place)) ≡ length slots = length-set slots at (Row after place) in
    grind (arith, rows, ends, long, c.set_key.ensures.queues)

pub returns-in-Row-clause-sound : goal.returns-in-Row-clause-sound
returns-in-Row-clause-sound c =
    let slots = c.args.self.now.slots.items in
    let number = c.args.number in
    let at = c.in-Some.at in
    let anew : Message → Message = changed c.args.self.now.next_receipt c.args.change in
    let read : c.index_mut.result.now ≡ slot_at slots at = get_or_read slots at c.index_mut.result.now c.in-Some.ensures.1 c.index_mut.ensures.value (Ended Expired) in
    let row = c.in-Row.row in
    let place = c.in-Row.place in
    let stands : slot_at slots at ≡ Row row place = cc in
    let lanes = c.args.self.now.lanes in
    let after = c.change_row.new.row in
    let queue : after.queue ≡ row.queue = ap (λ (r : Message). r.queue) c.change_row.ensures in
    let expiries = c.args.self.now.expiries in
    let key = c.key_of.result in
    let new = c.set_key.new.self in
    let listed = c.requires.sound.indexed.rows at row place stands in
    let lane : lane_of row.queue new ≡ record (lane_of row.queue lanes) { keys = set (lane_of row.queue lanes).keys place key } = subst (λ (q : List ℕ). lane_of q new ≡ record (lane_of q lanes) { keys = set (lane_of q lanes).keys place key }) queue c.set_key.ensures.lane in
    let others : (name : List ℕ) → bytes_eq row.queue name ≡ false → lane_of name new ≡ lane_of name lanes = subst (λ (q : List ℕ). (name : List ℕ) → bytes_eq q name ≡ false → lane_of name new ≡ lane_of name lanes) queue c.set_key.ensures.others in
    let its_number : after.number ≡ row.number = ap (λ (r : Message). r.number) c.change_row.ensures in
    let its_expiry : after.expiry ≡ row.expiry = ap (λ (r : Message). r.expiry) c.change_row.ensures in
    let facts : (after.number ≡ row.number) × (after.queue ≡ row.queue) × (place ≡ place) × (key ≤ after.visible_at) × (key < 2 ^ 64 - 1) × IsNoLater (slice_index expiries at) after.expiry = (its_number, queue, refl, c.key_of.ensures.early, c.key_of.ensures.stands, subst (IsNoLater (slice_index expiries at)) (sym its_expiry) listed.expires) in
    record {
      indexed = indexes.indexed-change (λ name. lane_of name lanes) (λ name. lane_of name new) slots expiries expiries at row place key (Row after place) c.requires.sound.indexed stands
          (ap (λ (l : LaneValue). l.numbers) lane) (ap (λ (l : LaneValue). l.keys) lane) others refl (λ i differ. refl)
          (λ other its is.
          let same : after ≡ other = cc in
          let its_place : place ≡ its = cc in
          subst (λ (r : Message). (r.number ≡ row.number) × (r.queue ≡ row.queue) × (its ≡ place) × (key ≤ r.visible_at) × (key < 2 ^ 64 - 1) × IsNoLater (slice_index expiries at) r.expiry) same
          (facts.0, facts.1, sym its_place, facts.3, facts.4, facts.5));
      count = c.requires.sound.count ∙ sym (rows_at.as_many-at at slots row after place place stands);
    }

pub returns-in_default-index_mut-clause-part : goal.returns-in_default-index_mut-clause-part
returns-in_default-index_mut-clause-part c =
    let slots = c.args.self.now.slots.items in
    let number = c.args.number in
    let at = c.in-Some.at in
    let anew : Message → Message = changed c.args.self.now.next_receipt c.args.change in
    let read : c.index_mut.result.now ≡ slot_at slots at = get_or_read slots at c.index_mut.result.now c.in-Some.ensures.1 c.index_mut.ensures.value (Ended Expired) in
    let gone : slot_at slots at ≡ Ended c.in_default-index_mut.field-0 = cc in
    let none = rows_at.none_at number at slots c.in_default-index_mut.field-0 (indexes.numbered _ slots _ c.requires.sound.indexed) (sym c.in-Some.ensures.0) gone in
    let same : with_change number anew (kept slots) ≡ kept slots = rows_at.with_change-none number anew slots none in
    let kept_same : set slots at c.index_mut.result.now ≡ slots = ap (set slots at) read ∙ set-get_or slots at (Ended Expired) in
    let rows : kept (set slots at c.index_mut.result.now) ≡ kept slots = ap kept kept_same in
    let ends : ends_of (set slots at c.index_mut.result.now) ≡ ends_of slots = ap ends_of kept_same in
    let long : length (set slots at c.index_mut.result.now) ≡ length slots = ap length kept_same in
    grind (arith, rows, ends, long, same)

pub returns-in_default-index_mut-clause-sound : goal.returns-in_default-index_mut-clause-sound
returns-in_default-index_mut-clause-sound c =
    let slots = c.args.self.now.slots.items in
    let number = c.args.number in
    let at = c.in-Some.at in
    let anew : Message → Message = changed c.args.self.now.next_receipt c.args.change in
    let read : c.index_mut.result.now ≡ slot_at slots at = get_or_read slots at c.index_mut.result.now c.in-Some.ensures.1 c.index_mut.ensures.value (Ended Expired) in
    let kept_same : set slots at c.index_mut.result.now ≡ slots = ap (set slots at) read ∙ set-get_or slots at (Ended Expired) in
    record {
      indexed = subst (λ (ss : List Slot). IsIndexed (λ name. lane_of name c.args.self.now.lanes) ss c.args.self.now.expiries) (sym kept_same) c.requires.sound.indexed;
      count = c.requires.sound.count ∙ ap (λ (ss : List Slot). length (kept ss)) (sym kept_same);
    }
