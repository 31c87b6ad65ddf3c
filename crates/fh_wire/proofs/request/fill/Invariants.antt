use Rattle.std.proofs.Common.{◌≡◌, ◌≤◌, length}
use Rattle.fh_wire.specs.Causes.{Passes}
use Rattle.fh_wire.specs.Reading.{Brings}
use Rattle.fh_wire.proofs.request.fill.Given as goal

abbrev pub invariant-pieces : goal.invariant-pieces
invariant-pieces g l = record {
  brings : Brings (g.S.Source.left l.initial.source) (g.S.Source.left l.source) l.initial.body.items l.body.items;
  few : length l.body.items ≤ l.needed;
  passed : Passes (g.S.Source.read_faults l.initial.source) (g.S.Source.read_faults l.source)
      (g.S.Source.reads_surely l.initial.source) (g.S.Source.reads_surely l.source);
  beside : g.S.Source.beside_reading l.source ≡ g.S.Source.beside_reading l.initial.source;
  most : g.S.Source.most l.source ≤ g.S.Source.most l.initial.source;
}

abbrev pub decreases-pieces : goal.decreases-pieces
decreases-pieces g l = g.S.Source.most l.source
