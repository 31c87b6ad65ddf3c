use Rattle.std.proofs.Common.{refl}
use Rattle.fh_blobs.proofs.Marking.{noted-note}
use Rattle.fh_blobs.proofs.blobs.Blobs.note.Goals as goal

pub invariant_of-self : goal.invariant_of-self
invariant_of-self c =
    rw (
      c.set.ensures.rows,
      c.set_if.ensures.marks,
      c.set_if.ensures.functions,
      c.is_current-is_current.ensures,
      c.row.ensures,
      c.new.invariant,
      ← c.self.view_is,
    )
    (noted-note c.new.inside.receipt
    (record {
      blobs = c.self.inside.blobs.rows;
      receipts = c.self.inside.receipts.rows;
      next_version = c.self.inside.next_version;
    })
    c.self.inside.marks.marks c.self.inside.marks.functions c.self.invariant)

pub returns-clause-part : goal.returns-clause-part
returns-clause-part c = rw (c.set.ensures.rows, ← c.self.view_is, ← c.new.view_is) refl
