use Rattle.fh_dispatch.proofs.effecting.plan_ruling.Goals as goal

pub returns-in-Changed-clause-work : goal.returns-in-Changed-clause-work
returns-in-Changed-clause-work c part = rw c.in-Changed.is (c.plan_effect.ensures.work part)
