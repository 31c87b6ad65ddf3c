use Rattle.fh_blobs.proofs.Passing.{passed, rest_of, shorter}
use Rattle.fh_blobs.proofs.ahead.Ahead.behind_noted.Goals as goal

pub returns : goal.returns
returns c =
    let many = c.noted_first-many.result in
    let rows = c.args.self.blobs.now in
    let marks = c.args.self.marks.now in
    let within = c.noted_first-many.ensures in
    record {
      shorter = rw (rest_of many rows) (shorter many rows);
      unnoted = λ noted ahead.
          rw (rest_of many rows) (passed noted many rows marks ahead within.blobs within.marks within.alike).unnoted;
      ahead = λ noted ahead.
          rw (rest_of many rows, rest_of many marks)
          (passed noted many rows marks ahead within.blobs within.marks within.alike).ahead;
    }
