use Rattle.std.proofs.Common.{List, refl, length, sym, ap, ◌∙◌, subst}
use Rattle.fh_queues.specs.declared.slot.Slot.{Slot}
use Rattle.fh_queues.specs.Lanes.{lane_of}
use Rattle.fh_queues.specs.Index.{kept, IsIndexed}
use Rattle.fh_queues.proofs.Indexes as indexes
use Rattle.fh_queues.proofs.Keeping as keeping
use Rattle.fh_queues.proofs.lists.Lists.reserve.Goals as goal

pub returns-in_err-reserve-clause-sound : goal.returns-in_err-reserve-clause-sound
returns-in_err-reserve-clause-sound c =
    let same = sym c.reserve.ensures.items in
    record {
      indexed = subst (λ (ss : List Slot). IsIndexed (λ name. lane_of name c.args.self.now.lanes) ss c.args.self.now.expiries) same c.requires.sound.indexed;
      count = c.requires.sound.count ∙ ap (λ (ss : List Slot). length (kept ss)) same;
    }

pub returns-in_err-reserve_keys-clause-sound : goal.returns-in_err-reserve_keys-clause-sound
returns-in_err-reserve_keys-clause-sound c =
    let lanes = c.args.self.now.lanes in
    let same = sym c.reserve.ensures.items in
    let indexed = subst (λ (ss : List Slot). IsIndexed (λ name. lane_of name lanes) ss c.args.self.now.expiries) same c.requires.sound.indexed in
    record {
      indexed = indexes.indexed-grows (λ name. lane_of name lanes) (λ name. lane_of name lanes) c.reserve.new.self.items c.args.self.now.expiries c.reserve_keys.new.keys indexed (λ name. refl) (λ name. keeping.keeps-same (lane_of name lanes).keys) c.reserve_keys.ensures.keys;
      count = c.requires.sound.count ∙ ap (λ (ss : List Slot). length (kept ss)) same;
    }

pub returns-clause-sound : goal.returns-clause-sound
returns-clause-sound c =
    let lanes = c.args.self.now.lanes in
    let new = c.reserve_lanes.new.lanes in
    let same = sym c.reserve.ensures.items in
    let indexed = subst (λ (ss : List Slot). IsIndexed (λ name. lane_of name lanes) ss c.args.self.now.expiries) same c.requires.sound.indexed in
    record {
      indexed = indexes.indexed-grows (λ name. lane_of name lanes) (λ name. lane_of name new) c.reserve.new.self.items c.args.self.now.expiries c.reserve_keys.new.keys indexed c.reserve_lanes.ensures.grows.numbers c.reserve_lanes.ensures.grows.keys c.reserve_keys.ensures.keys;
      count = c.requires.sound.count ∙ ap (λ (ss : List Slot). length (kept ss)) same;
    }
