use Rattle.std.proofs.Common.{◌≡◌, ◌+◌, ◌<◌, ◌^◌, length}
use Rattle.std.specs.Vec.Iter.{into_iter_items, into_iter_len}
use Rattle.fh_queues.specs.Acts.{by_acts}
use Rattle.fh_queues.specs.Lists.{part_of, IsSound, Fits}
use Rattle.fh_queues.proofs.lists.Lists.act_all.Given as goal

abbrev pub invariant-loop-act : goal.invariant-loop-act
invariant-loop-act l = record {
  left : by_acts (part_of l.self) (into_iter_items l.act-iterator) ≡ by_acts (part_of l.fn.self) l.fn.acts.items;
  len : into_iter_len l.act-iterator ≡ length (into_iter_items l.act-iterator);
  sound : IsSound l.self;
  fits : Fits l.self (into_iter_items l.act-iterator);
  numbers : length l.self.slots.items + 1 + length (into_iter_items l.act-iterator) < 2 ^ 64;
  receipts : l.self.next_receipt + length (into_iter_items l.act-iterator) < 2 ^ 64;
}
