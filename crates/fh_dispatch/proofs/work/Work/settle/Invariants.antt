use Rattle.std.proofs.Common.{◌≡◌, ◌+◌, ◌<◌, ◌≤◌, ◌^◌, length}
use Rattle.std.specs.Vec.Iter.{into_iter_items, into_iter_len}
use Rattle.fh_dispatch.specs.Acts.{by_acts}
use Rattle.fh_dispatch.proofs.work.Work.settle.Given as goal

abbrev pub invariant-loop-act : goal.invariant-loop-act
invariant-loop-act l = record {
  left : by_acts l.self.part (into_iter_items l.act-iterator) ≡ by_acts l.fn.self.part l.fn.staged.acts;
  len : into_iter_len l.act-iterator ≡ length (into_iter_items l.act-iterator);
  room : length (into_iter_items l.act-iterator) ≤ l.self.room;
  job_room : length (into_iter_items l.act-iterator) ≤ l.self.job_room;
  run_room : length (into_iter_items l.act-iterator) ≤ l.self.run_room;
  numbers : l.self.part.next_function + length (into_iter_items l.act-iterator) < 2 ^ 64;
  sessions : l.self.part.session + length (into_iter_items l.act-iterator) < 2 ^ 64;
}
