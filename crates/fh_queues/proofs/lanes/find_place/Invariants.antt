use Rattle.std.proofs.Common.{◌≡◌, ◌≤◌, ◌-◌, true, length}
use Rattle.std.specs.List.{AllWithin}
use Rattle.fh_queues.specs.Order.{comes_before}
use Rattle.fh_queues.proofs.lanes.find_place.Given as goal

abbrev pub invariant-loop-low : goal.invariant-loop-low
invariant-loop-low l = record {
  order : l.low ≤ l.high;
  within : l.high ≤ length l.lanes;
  before : AllWithin (λ lane. comes_before lane.name l.wanted ≡ true) l.lanes 0 l.low;
  behind : AllWithin (λ lane. comes_before l.wanted lane.name ≡ true) l.lanes l.high (length l.lanes);
}

abbrev pub decreases-loop-low : goal.decreases-loop-low
decreases-loop-low l = l.high - l.low
