use Rattle.fh_dispatch.proofs.Jobs.{begins_first, jobs_of-part}
use Rattle.fh_dispatch.proofs.ready.bounds_of.Goals as goal

pub returns-clause-order : goal.returns-clause-order
returns-clause-order c =
    let before = c.place_before.ensures in
    let behind = c.place_behind.ensures in
    begins_first c.args.function c.args.jobs.now _ _ before.place behind.place before.within behind.within

pub returns-clause-part : goal.returns-clause-part
returns-clause-part c =
    let before = c.place_before.ensures in
    let behind = c.place_behind.ensures in
    jobs_of-part c.args.function c.args.jobs.now _ _ before.place behind.place before.within behind.within
