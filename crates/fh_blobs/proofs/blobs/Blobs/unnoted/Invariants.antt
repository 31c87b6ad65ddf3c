use Rattle.std.proofs.Common.{◌≡◌, ◌++◌, length, map}
use Rattle.fh_blobs.specs.Part.{is_noted, unnoted}
use Rattle.fh_blobs.specs.Marks.{IsAhead, unnoted_of}
use Rattle.fh_blobs.proofs.blobs.Blobs.unnoted.Given as goal

abbrev pub invariant-loop-row : goal.invariant-loop-row
invariant-loop-row l = record {
  names :
      l.names.items ++ map (λ row. row.blob) (unnoted_of (is_noted l.self.part l.function) l.ahead.blobs.now)
      ≡ unnoted l.self.part l.function l.container;
  ahead : IsAhead (is_noted l.self.part l.function) l.ahead.blobs.now l.ahead.marks.now;
}

abbrev pub decreases-loop-row : goal.decreases-loop-row
decreases-loop-row l = length l.ahead.blobs.now
