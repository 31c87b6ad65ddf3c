use Rattle.std.proofs.Common.{◌≡◌, take, map}
use Rattle.fh_queues.specs.Outcome.{peeked_item}
use Rattle.fh_queues.proofs.choosing.peeked_items.Given as goal

abbrev pub invariant-loop-row : goal.invariant-loop-row
invariant-loop-row l = l.items.items ≡ map peeked_item (map (λ row. row.now) (take l.row-index l.rows))
