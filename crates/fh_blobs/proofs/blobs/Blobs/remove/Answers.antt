use Rattle.fh_blobs.proofs.Marking.{noted-removed}
use Rattle.fh_blobs.proofs.blobs.Blobs.remove.Goals as goal

pub invariant_of-self : goal.invariant_of-self
invariant_of-self c =
    rw (c.remove-2.ensures.rows, c.remove.ensures.marks, c.remove.ensures.functions)
    (noted-removed c.args.container c.args.name.now
    (record {
      blobs = c.self.inside.blobs.rows;
      receipts = c.self.inside.receipts.rows;
      next_version = c.self.inside.next_version;
    })
    c.self.inside.marks.marks c.self.inside.marks.functions c.self.invariant)
