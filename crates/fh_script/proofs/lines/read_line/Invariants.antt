use Rattle.std.proofs.Common.{◌≡◌, ◌≤◌, ◌+◌, length}
use Rattle.std.specs.Io.KnownBytes.{Consumes}
use Rattle.fh_script.specs.Lines.{line_feeds}
use Rattle.fh_script.proofs.lines.read_line.Given as goal

abbrev pub invariant-loop-byte : goal.invariant-loop-byte
invariant-loop-byte g l = record {
  read : Consumes (g.S.Source.left l.initial.source) (g.S.Source.left l.source) l.line.items;
  plain : line_feeds l.line.items ≡ 0;
  short : length l.line.items ≤ 140000;
  most : length l.line.items + g.S.Source.most l.source ≤ g.S.Source.most l.initial.source;
  count : g.S.Source.read_faults l.source ≡ g.S.Source.read_faults l.initial.source;
}

abbrev pub decreases-loop-byte : goal.decreases-loop-byte
decreases-loop-byte g l = g.S.Source.most l.source
