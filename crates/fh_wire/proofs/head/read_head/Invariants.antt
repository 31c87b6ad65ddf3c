use Rattle.std.proofs.Common.{◌≡◌, ◌≤◌, length}
use Rattle.std.specs.Io.KnownBytes.{Consumes}
use Rattle.std.specs.List.{fold}
use Rattle.httparse.specs.Grammar.{HasNoRequest}
use Rattle.fh_wire.specs.Causes.{Passes}
use Rattle.fh_wire.specs.Scan.{fresh, stepped}
use Rattle.fh_wire.proofs.head.read_head.Given as goal

abbrev pub invariant-pieces : goal.invariant-pieces
invariant-pieces g l = record {
  read : Consumes (g.S.Source.left l.initial.source) (g.S.Source.left l.source) l.bytes.items;
  few : length l.bytes.items ≤ 2097152;
  scanned : l.scan ≡ fold stepped fresh l.bytes.items;
  lines : l.scan.lines ≤ length l.bytes.items;
  headless : HasNoRequest l.bytes.items;
  passed : Passes (g.S.Source.read_faults l.initial.source) (g.S.Source.read_faults l.source)
      (g.S.Source.reads_surely l.initial.source) (g.S.Source.reads_surely l.source);
  beside : g.S.Source.beside_reading l.source ≡ g.S.Source.beside_reading l.initial.source;
  most : g.S.Source.most l.source ≤ g.S.Source.most l.initial.source;
}

abbrev pub decreases-pieces : goal.decreases-pieces
decreases-pieces g l = g.S.Source.most l.source
