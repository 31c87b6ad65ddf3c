use Rattle.std.proofs.Common.{◌≡◌, ◌+◌, ◌<◌, ◌≤◌, ◌^◌, length}
use Rattle.std.specs.Vec.Iter.{into_iter_items, into_iter_len}
use Rattle.fh_blobs.specs.Acts.{by_acts}
use Rattle.fh_blobs.proofs.blobs.Blobs.settle.Given as goal

abbrev pub invariant-loop-act : goal.invariant-loop-act
invariant-loop-act l = record {
  left : by_acts l.self.part (into_iter_items l.act-iterator) ≡ by_acts l.fn.self.part l.fn.staged.acts;
  len : into_iter_len l.act-iterator ≡ length (into_iter_items l.act-iterator);
  blobs : length (into_iter_items l.act-iterator) ≤ l.self.blob_room;
  receipts : length (into_iter_items l.act-iterator) ≤ l.self.receipt_room;
  marks : length (into_iter_items l.act-iterator) ≤ l.self.marks.mark_room;
  functions : length (into_iter_items l.act-iterator) ≤ l.self.marks.function_room;
  numbers : l.self.part.next_version + length (into_iter_items l.act-iterator) < 2 ^ 64;
}
