use Rattle.std.proofs.Common.{◌≡◌, ◌≤◌, take}
use Rattle.fh_blobs.specs.Marks.{without_marks}
use Rattle.fh_blobs.proofs.marks.unmark.Given as goal

abbrev pub invariant-loop-function : goal.invariant-loop-function
invariant-loop-function l = record {
  marks : l.marks.rows ≡ without_marks l.container l.name (take l.function-index l.functions) l.fn.marks.rows;
  room : l.fn.marks.room ≤ l.marks.room;
}
