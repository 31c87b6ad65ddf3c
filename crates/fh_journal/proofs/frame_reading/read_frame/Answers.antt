use Rattle.std.proofs.Common.{◌≡◌, length, arith}
use Rattle.std.proofs.lemmas.Grind.{common_steps}
use Rattle.fh_journal.proofs.Gates.{cut_at, frame_at}
use Rattle.fh_journal.proofs.frame_reading.read_frame.Goals as goal

pub returns-then-size-rest-clause-read : goal.returns-then-size-rest-clause-read
returns-then-size-rest-clause-read g c =
    cut_at _ c.args.end c.args.at c.in-Some.size c.in_ok-size.field-0 c.cut.result c.in-Some.is
    c.in_ok-size.ensures.read c.if-size-rest.true c.cut.ensures

pub returns-clause-read : goal.returns-clause-read
returns-clause-read g c =
    let long : length c.read_fully.new.buf ≡ c.in-Some.size = grind (arith, common_steps) in
    let same : c.new.result ≡ c.read_fully.new.buf = grind (arith, common_steps) in
    frame_at (g.J.Disk.told c.args.disk.now)
    c.args.end c.args.at c.in-Some.size c.in_ok-size.field-0 c.in_ok-read_fully.field-0 c.read_fully.new.buf
    c.new.result c.in-Some.is
    c.if-not-branch.false c.in_ok-size.ensures.read
    (rw c.read_size.ensures.quiet.same_bytes at c.in_ok-read_fully.ensures.bytes) long same
