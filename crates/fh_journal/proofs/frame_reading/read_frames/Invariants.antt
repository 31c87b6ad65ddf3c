use Rattle.std.proofs.Common.{◌≡◌, ◌-◌, ◌<◌}
use Rattle.fh_journal.specs.Frames.{payloads_of, frames_from}
use Rattle.fh_disk.specs.Moments.{OnlyReads}
use Rattle.fh_journal.proofs.Walk.{IsReadTold, place_behind}
use Rattle.fh_journal.proofs.frame_reading.read_frames.Given as goal

abbrev pub invariant-loop-frames : goal.invariant-loop-frames
invariant-loop-frames g l = record {
  inside : l.at < l.end;
  place : l.at ≡ place_behind 6 (payloads_of l.frames.items);
  places : l.frames.items ≡ frames_from 6 (payloads_of l.frames.items);
  quiet : OnlyReads g.J.Disk.told g.J.Disk.may_leave g.J.Disk.moment g.J.Disk.left_since l.initial.disk l.disk;
  count : g.J.Disk.disk_faults l.disk ≡ g.J.Disk.disk_faults l.initial.disk;
  read : IsReadTold (g.J.Disk.told l.initial.disk) l.end (payloads_of l.frames.items) l.at;
}

abbrev pub decreases-loop-frames : goal.decreases-loop-frames
decreases-loop-frames g l = l.end - l.at
