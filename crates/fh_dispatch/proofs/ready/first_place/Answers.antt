use Rattle.std.proofs.Common.{arith}
use Rattle.fh_dispatch.proofs.FirstJobs.{without_first-at, without_first-lower, without_first-later}
use Rattle.fh_dispatch.proofs.ready.first_place.Goals as goal

pub returns-then-jobs-place : goal.returns-then-jobs-place
returns-then-jobs-place c =
    without_first-lower c.args.function c.args.jobs.now c.place_before-place.result c.place_before-place.ensures.place.0
    c.if-jobs-place.true

pub returns-then-jobs-place-2 : goal.returns-then-jobs-place-2
returns-then-jobs-place-2 c = (
  omega (arith, c.if-jobs-place.false),
  without_first-at c.args.function c.args.jobs.now c.place_before-place.result _ c.place_before-place.ensures.place.0
      (omega (arith, c.if-jobs-place.false)) c.if-jobs-place-2.true,
)

pub returns : goal.returns
returns c =
    without_first-later c.args.function c.args.jobs.now c.place_before-place.result _ c.requires
    c.place_before-place.ensures.place.0 c.place_before-place.ensures.place.1 (omega (arith, c.if-jobs-place.false))
    c.if-jobs-place-2.false
