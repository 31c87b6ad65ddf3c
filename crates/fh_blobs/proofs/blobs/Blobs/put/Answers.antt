use Rattle.std.proofs.Common.{◌+◌}
use Rattle.fh_blobs.proofs.Marking.{noted-put}
use Rattle.fh_blobs.proofs.blobs.Blobs.put.Goals as goal

pub invariant_of-self : goal.invariant_of-self
invariant_of-self c =
    rw (c.set.ensures.rows, c.remove.ensures.marks, c.remove.ensures.functions, c.as_str.ensures, c.row-row.ensures)
    (noted-put c.set_version.new.self (c.self.inside.next_version + 1)
    (record {
      blobs = c.self.inside.blobs.rows;
      receipts = c.self.inside.receipts.rows;
      next_version = c.self.inside.next_version;
    })
    c.self.inside.marks.marks c.self.inside.marks.functions c.self.invariant)
