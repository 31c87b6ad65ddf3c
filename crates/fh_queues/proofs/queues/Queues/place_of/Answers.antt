use Rattle.std.proofs.Common.{◌≡◌, Some, None, ap, sym, ◌∙◌, arith}
use Rattle.std.proofs.lemmas.List.{get_or_read, length-map}
use Rattle.fh_queues.specs.declared.done.Ending.TheVariants.{Expired}
use Rattle.fh_queues.specs.declared.slot.Slot.TheVariants.{Row, Ended}
use Rattle.fh_queues.specs.Rows.{row_of}
use Rattle.fh_queues.specs.Part.{end_of}
use Rattle.fh_queues.specs.Seen.{seen_by}
use Rattle.fh_queues.specs.Places.{place_by, place_of}
use Rattle.fh_queues.specs.Edits.{QueueState}
use Rattle.fh_queues.specs.Index.{kept, ends_of, ending_of, slot_at}
use Rattle.fh_queues.proofs.Indexes.{numbered}
use Rattle.fh_queues.proofs.Slots.{row_of-none, row_of-at, none_at, none_beyond}
use Rattle.fh_queues.proofs.Looking.{end_of-at, end_of-none}
use Rattle.fh_queues.proofs.queues.Queues.place_of.Goals as goal

pub returns-in_default : goal.returns-in_default
returns-in_default c =
    let slots = c.self.inside.lists.slots.items in
    let number = c.args.number in
    let none : row_of number (kept slots) ≡ None =
    row_of-none number slots
    (none_beyond number slots (numbered _ slots _ c.self.invariant.1.indexed) c.in_default.ensures) in
    let unended : end_of number (ends_of slots) ≡ None =
    end_of-none number (ends_of slots) (rw (length-map slots ending_of) c.in_default.ensures) in
    sym (ap (λ row. place_by c.args.m (seen_by row (end_of number (ends_of slots)))) none
    ∙ ap (λ end. place_by c.args.m (seen_by None end)) unended)
    ∙ ap (λ (s : QueueState). place_of s.part number c.args.m) c.self.view_is

pub returns-in-Row : goal.returns-in-Row
returns-in-Row c =
    let slots = c.self.inside.lists.slots.items in
    let number = c.args.number in
    let at = c.in-Some.at in
    let read : c.index.result.now ≡ slot_at slots at =
    get_or_read slots at c.index.result.now c.in-Some.ensures.1 c.index.ensures (Ended Expired) in
    let stands : slot_at slots at ≡ Row c.in-Row.row c.in-Row.place = cc in
    let found : row_of number (kept slots) ≡ Some c.in-Row.row =
    row_of-at 0 number at slots c.in-Row.row c.in-Row.place (numbered _ slots _ c.self.invariant.1.indexed)
    (omega (arith, c.in-Some.ensures.0)) stands in
    c.place_of_row.ensures ∙ sym (ap (λ row. place_by c.args.m (seen_by row (end_of number (ends_of slots)))) found)
    ∙ ap (λ (s : QueueState). place_of s.part number c.args.m) c.self.view_is

pub returns-in-Ended : goal.returns-in-Ended
returns-in-Ended c =
    let slots = c.self.inside.lists.slots.items in
    let number = c.args.number in
    let at = c.in-Some.at in
    let read : c.index.result.now ≡ slot_at slots at =
    get_or_read slots at c.index.result.now c.in-Some.ensures.1 c.index.ensures (Ended Expired) in
    let gone : slot_at slots at ≡ Ended c.in-Ended.ending = cc in
    let none : row_of number (kept slots) ≡ None =
    row_of-none number slots
    (none_at number at slots c.in-Ended.ending (numbered _ slots _ c.self.invariant.1.indexed)
    (sym c.in-Some.ensures.0) gone) in
    let ended : end_of number (ends_of slots) ≡ Some c.in-Ended.ending =
    end_of-at number at slots c.in-Ended.ending c.in-Some.ensures.0 c.in-Some.ensures.1 gone in
    c.place_of_ending.ensures
    ∙ sym (ap (λ row. place_by c.args.m (seen_by row (end_of number (ends_of slots)))) none
    ∙ ap (λ end. place_by c.args.m (seen_by None end)) ended)
    ∙ ap (λ (s : QueueState). place_of s.part number c.args.m) c.self.view_is
