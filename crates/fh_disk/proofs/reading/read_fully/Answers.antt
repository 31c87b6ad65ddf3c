use Rattle.std.proofs.Common.{refl, ◌∙◌, arith}
use Rattle.fh_disk.proofs.Moments.{quiet_start, quiet_call}
use Rattle.fh_disk.proofs.Filling.{starts, goes_on, fits, ends}
use Rattle.fh_disk.proofs.reading.read_fully.Goals as goal

pub loop-filled-init : goal.loop-filled-init
loop-filled-init g c = record {
  quiet =
      quiet_start g.J.Disk.told g.J.Disk.may_leave g.J.Disk.moment g.J.Disk.left_since c.args.disk.now
      (g.met.J.Disk.only_now c.args.disk.now);
  count = omega arith;
  bound = omega arith;
  fit = λ i. (c.type_inv.buf i).fits;
  filling = starts _ c.args.at c.args.buf.now;
}

pub loop-filled-preserved : goal.loop-filled-preserved
loop-filled-preserved g c = record {
  quiet =
      quiet_call g.J.Disk.told g.J.Disk.may_leave g.J.Disk.moment g.J.Disk.left_since _ _ _
      c.loop-filled.invariant.quiet c.read_at.ensures.told
      c.read_at.ensures.images c.read_at.ensures.time;
  count = c.in_ok-count.ensures.cause.passed refl ∙ c.loop-filled.invariant.count;
  fit = λ i. (c.type_inv.buf i).fits;
  bound = fits c.loop-filled.filled c.in_ok-count.count c.loop-filled.buf c.read_at.new.buf _
      c.loop-filled.invariant.bound c.in_ok-count.ensures.bound.0;
  filling =
      goes_on _ _ c.args.at c.loop-filled.filled c.in_ok-count.count c.loop-filled.buf c.read_at.new.buf _
      c.loop-filled.invariant.quiet.same_bytes
      c.loop-filled.invariant.bound c.in_ok-count.ensures.bound.0 c.loop-filled.invariant.filling
      c.in_ok-count.ensures.bytes;
}

pub returns-clause-bytes : goal.returns-clause-bytes
returns-clause-bytes g c =
    ends _ c.args.at c.loop-filled.filled c.loop-filled.buf c.loop-filled.invariant.bound c.loop-filled-test.false
    c.loop-filled.invariant.filling

pub returns-in_err-count-clause-quiet : goal.returns-in_err-count-clause-quiet
returns-in_err-count-clause-quiet g c =
    quiet_call g.J.Disk.told g.J.Disk.may_leave g.J.Disk.moment g.J.Disk.left_since _ _ _ c.loop-filled.invariant.quiet
    c.read_at.ensures.told
    c.read_at.ensures.images c.read_at.ensures.time

pub returns-clause-fit : goal.returns-clause-fit
returns-clause-fit g c = c.loop-filled.invariant.fit
