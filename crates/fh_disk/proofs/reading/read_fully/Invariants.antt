use Rattle.std.proofs.Common.{◌≡◌, ℕ, ◌-◌, ◌<◌, ◌≤◌, get_or, length, IfSome}
use Rattle.fh_disk.specs.Moments.{OnlyReads}
use Rattle.fh_disk.proofs.Filling.{IsFilling}
use Rattle.fh_disk.proofs.reading.read_fully.Given as goal

abbrev pub invariant-loop-filled : goal.invariant-loop-filled
invariant-loop-filled g l = record {
  quiet : OnlyReads g.J.Disk.told g.J.Disk.may_leave g.J.Disk.moment g.J.Disk.left_since l.initial.disk l.disk;
  count : g.J.Disk.disk_faults l.disk ≡ g.J.Disk.disk_faults l.initial.disk;
  fit : (i : ℕ) → get_or l.buf i 0 < 256;
  bound : l.filled ≤ length l.buf;
  filling : IfSome (g.J.Disk.told l.initial.disk) (λ file. IsFilling file l.at l.filled l.buf);
}

abbrev pub decreases-loop-filled : goal.decreases-loop-filled
decreases-loop-filled g l = length l.initial.buf - l.filled
