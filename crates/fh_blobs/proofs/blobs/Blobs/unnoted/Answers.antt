use Rattle.std.proofs.Common.{arith}
use Rattle.std.proofs.lemmas.Grind.{common_steps}
use Rattle.fh_blobs.proofs.Passing.{at_start}
use Rattle.fh_blobs.proofs.blobs.Blobs.unnoted.Goals as goal

pub loop-row-init : goal.loop-row-init
loop-row-init c = record {
  names = grind (arith, common_steps);
  ahead =
      rw (c.all_at.ensures, c.of.ensures, ← c.self.view_is)
      (at_start
      (record {
        blobs = c.self.inside.blobs.rows;
        receipts = c.self.inside.receipts.rows;
        next_version = c.self.inside.next_version;
      })
      c.args.function c.args.container.now c.self.inside.marks.marks c.self.inside.marks.functions c.self.invariant);
}
