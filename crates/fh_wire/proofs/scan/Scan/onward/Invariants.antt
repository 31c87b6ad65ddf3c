use Rattle.std.proofs.Common.{◌≡◌, ◌+◌, ◌≤◌, take}
use Rattle.std.specs.List.{fold}
use Rattle.fh_wire.specs.Scan.{stepped}
use Rattle.fh_wire.proofs.scan.Scan.onward.Given as goal

abbrev pub invariant-loop-byte : goal.invariant-loop-byte
invariant-loop-byte l = record {
  seen : l.scan ≡ fold stepped l.initial.scan (take l.byte-index l.bytes);
  few : l.scan.lines ≤ l.initial.scan.lines + l.byte-index;
}
