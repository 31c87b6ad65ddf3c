use Rattle.std.proofs.Common.{arith, ap, sym, ◌∙◌, subst, List}
use Rattle.fh_blobs.specs.declared.blob.BlobRow.{BlobRow}
use Rattle.fh_blobs.specs.Marks.{IsAhead, unnoted_of}
use Rattle.fh_blobs.proofs.Passing.{behind_first}
use Rattle.fh_blobs.proofs.ahead.Ahead.next.Goals as goal

pub returns : goal.returns
returns c =
    let parts = c.in_ok-kept.ensures.cases.0 in
    let short = c.in_ok-kept.ensures.cases.1 in
    let passed = c.behind_noted-ahead.ensures in
    let few = passed.shorter in
    record {
      shorter = omega (arith, short, few);
      unnoted = λ noted ahead.
          rw c.row-row.ensures (ap (unnoted_of noted) (sym parts) ∙ passed.unnoted noted ahead);
      ahead = λ noted ahead.
          rw (c.behind_mark-marks.ensures, c.row-row.ensures)
          (behind_first noted c.in_ok-kept.kept.now c.in_ok-kept.blobs.now _
          (subst (λ (rows : List BlobRow). IsAhead noted rows c.behind_noted-ahead.result.marks.now) parts
          (passed.ahead noted ahead)));
    }
