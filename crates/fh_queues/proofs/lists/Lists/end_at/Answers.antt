use Rattle.std.proofs.Common.{arith, ◌≡◌, ℕ, List, length, ap, ◌∙◌}
use Rattle.std.specs.Prelude.{set, get_or}
use Rattle.std.proofs.lemmas.List.{get_or_read, get_or-set_other, length-set}
use Rattle.fh_queues.specs.declared.done.Ending.TheVariants.{Expired}
use Rattle.fh_queues.specs.declared.slot.Slot.TheVariants.{Row, Ended}
use Rattle.fh_queues.specs.Lanes.{LaneValue, lane_of}
use Rattle.fh_queues.specs.Index.{slot_at}
use Rattle.fh_queues.proofs.Slots.{fewer-at}
use Rattle.fh_queues.proofs.Indexes.{indexed-change}
use Rattle.fh_queues.proofs.lists.Lists.end_at.Goals as goal

pub overflow_sub-self : goal.overflow_sub-self
overflow_sub-self c =
    let slots = c.args.self.now.slots.items in
    let at = c.args.at in
    let row = c.in-Row.row in
    let place = c.in-Row.place in
    let read : c.index.result.now ≡ slot_at slots at = get_or_read slots at c.index.result.now c.requires.within c.index.ensures (Ended Expired) in
    let stands : slot_at slots at ≡ Row row place = cc in
    omega (arith, fewer-at at slots row place c.args.ending stands, c.requires.sound.count)

pub set_key-requires : goal.set_key-requires
set_key-requires c =
    let slots = c.args.self.now.slots.items in
    let at = c.args.at in
    let row = c.in-Row.row in
    let place = c.in-Row.place in
    let read : c.index.result.now ≡ slot_at slots at = get_or_read slots at c.index.result.now c.requires.within c.index.ensures (Ended Expired) in
    let stands : slot_at slots at ≡ Row row place = cc in
    omega (arith, (c.requires.sound.indexed.rows at row place stands).within, (c.requires.sound.indexed.lanes row.queue).keyed)

pub returns-clause-sound : goal.returns-clause-sound
returns-clause-sound c =
    let slots = c.args.self.now.slots.items in
    let at = c.args.at in
    let row = c.in-Row.row in
    let place = c.in-Row.place in
    let read : c.index.result.now ≡ slot_at slots at = get_or_read slots at c.index.result.now c.requires.within c.index.ensures (Ended Expired) in
    let stands : slot_at slots at ≡ Row row place = cc in
    let lanes = c.args.self.now.lanes in
    let expiries = c.args.self.now.expiries in
    let never : ℕ = 18446744073709551615 in
    let after : c.set.new.self ≡ set expiries at never = c.set.ensures in
    let indexed = indexed-change (λ name. lane_of name lanes) (λ name. lane_of name c.set_key.new.self) slots expiries c.set.new.self at row place never (Ended c.args.ending) c.requires.sound.indexed stands
    (ap (λ (l : LaneValue). l.numbers) c.set_key.ensures.lane)
    (ap (λ (l : LaneValue). l.keys) c.set_key.ensures.lane)
    c.set_key.ensures.others
    (ap length after ∙ length-set expiries at never)
    (λ i differ. ap (λ (ks : List ℕ). get_or ks i 0) after ∙ get_or-set_other expiries at i never 0 differ)
    (λ other its is. absurd (cc)) in
    record {
      indexed = indexed;
      count = omega (arith, fewer-at at slots row place c.args.ending stands, c.requires.sound.count);
    }
