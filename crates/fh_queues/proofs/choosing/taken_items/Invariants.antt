use Rattle.std.proofs.Common.{◌≡◌, ◌+◌, take, map}
use Rattle.fh_queues.specs.Outcome.{taken_items}
use Rattle.fh_queues.proofs.choosing.taken_items.Given as goal

abbrev pub invariant-loop-row : goal.invariant-loop-row
invariant-loop-row l = record {
  next : l.next ≡ l.receipt + l.row-index;
  items : l.items.items ≡ taken_items l.receipt (map (λ row. row.now) (take l.row-index l.rows));
}
