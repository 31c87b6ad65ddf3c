use Rattle.std.proofs.Common.{◌≡◌, take}
use Rattle.std.specs.Option.{option_map}
use Rattle.fh_disk.specs.Pieces.{pieces_written, OnlyWrites}
use Rattle.fh_disk.proofs.pieces.write_pieces.Given as goal

abbrev pub invariant-loop-piece : goal.invariant-loop-piece
invariant-loop-piece g l = record {
  written : g.J.Disk.told l.disk ≡ option_map (pieces_written (take l.piece-index l.pieces))
      (g.J.Disk.told l.initial.disk);
  only : OnlyWrites g.J.Disk.told g.J.Disk.may_leave g.J.Disk.moment g.J.Disk.left_since (take l.piece-index l.pieces)
      l.initial.disk l.disk;
  count : g.J.Disk.disk_faults l.disk ≡ g.J.Disk.disk_faults l.initial.disk;
}
