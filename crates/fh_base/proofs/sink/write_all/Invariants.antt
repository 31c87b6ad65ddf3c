use Rattle.std.proofs.Common.{◌≡◌, ◌≤◌, ◌-◌, length, take, true}
use Rattle.std.specs.Io.KnownBytes.{Appends}
use Rattle.fh_base.proofs.sink.write_all.Given as goal

abbrev pub invariant-loop-place : goal.invariant-loop-place
invariant-loop-place g l = record {
  within : l.place ≤ length l.bytes;
  written : Appends (g.O.Sink.written l.initial.sink) (g.O.Sink.written l.sink) (take l.place l.bytes);
  count : g.O.Sink.write_faults l.sink ≡ g.O.Sink.write_faults l.initial.sink;
  sure : g.O.Sink.writes_surely l.initial.sink ≡ true → g.O.Sink.writes_surely l.sink ≡ true;
  beside : g.O.Sink.beside_writing l.sink ≡ g.O.Sink.beside_writing l.initial.sink;
}

abbrev pub decreases-loop-place : goal.decreases-loop-place
decreases-loop-place g l = length l.bytes - l.place
