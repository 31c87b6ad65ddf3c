use Rattle.std.proofs.Common.{◌≡◌, ℕ, ◌<◌, ◌≤◌, get_or}
use Rattle.fh_disk.proofs.image.scatter.Given as goal

abbrev pub invariant-loop-i : goal.invariant-loop-i
invariant-loop-i l = record {
  before : (k : ℕ) → k < l.from → get_or l.image k 0 ≡ get_or l.fn.image k 0;
  behind : (k : ℕ) → l.to ≤ k → get_or l.image k 0 ≡ get_or l.fn.image k 0;
  choice : l.draw.choice ≡ l.fn.draw.choice;
}
