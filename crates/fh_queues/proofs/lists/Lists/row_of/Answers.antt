use Rattle.std.proofs.Common.{arith, ◌≡◌, sym}
use Rattle.std.proofs.lemmas.List.{get_or_read}
use Rattle.fh_queues.specs.declared.done.Ending.TheVariants.{Expired}
use Rattle.fh_queues.specs.declared.slot.Slot.TheVariants.{Row, Ended}
use Rattle.fh_queues.specs.Index.{slot_at}
use Rattle.fh_queues.proofs.Indexes as indexes
use Rattle.fh_queues.proofs.Slots as rows_at
use Rattle.fh_queues.proofs.lists.Lists.row_of.Goals as goal

pub returns-in_default : goal.returns-in_default
returns-in_default c =
    let slots = c.args.self.now.slots.items in
    sym (rows_at.row_of-none c.args.number slots (rows_at.none_beyond c.args.number slots (indexes.numbered _ slots _ c.requires.indexed) c.in_default.ensures))

pub returns-in-Row : goal.returns-in-Row
returns-in-Row c =
    let slots = c.args.self.now.slots.items in
    let at = c.in-Some.at in
    let read : c.index.result.now ≡ slot_at slots at = get_or_read slots at c.index.result.now c.in-Some.ensures.1 c.index.ensures (Ended Expired) in
    let stands : slot_at slots at ≡ Row c.in-Row.row c.in-Row.place = cc in
    sym (rows_at.row_of-at 0 c.args.number at slots c.in-Row.row c.in-Row.place (indexes.numbered _ slots _ c.requires.indexed) (omega (arith, c.in-Some.ensures.0)) stands)

pub returns-in-Ended : goal.returns-in-Ended
returns-in-Ended c =
    let slots = c.args.self.now.slots.items in
    let at = c.in-Some.at in
    let read : c.index.result.now ≡ slot_at slots at = get_or_read slots at c.index.result.now c.in-Some.ensures.1 c.index.ensures (Ended Expired) in
    let gone : slot_at slots at ≡ Ended c.in-Ended.ending = cc in
    sym (rows_at.row_of-none c.args.number slots (rows_at.none_at c.args.number at slots c.in-Ended.ending (indexes.numbered _ slots _ c.requires.indexed) (sym c.in-Some.ensures.0) gone))
