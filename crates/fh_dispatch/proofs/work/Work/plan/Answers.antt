use Rattle.std.proofs.Common.{refl, sym, subst}
use Rattle.fh_dispatch.specs.declared.ask.WorkAsk.{WorkAsk}
use Rattle.fh_dispatch.specs.Asks.{ask_of}
use Rattle.fh_dispatch.specs.Begin.{begin_of}
use Rattle.fh_dispatch.specs.Faults.{IsPlanOf}
use Rattle.fh_dispatch.specs.Finish.{finish_of}
use Rattle.fh_dispatch.specs.Outcome.{acting, made_by, outcome}
use Rattle.fh_dispatch.specs.Part.{Others, others_with}
use Rattle.fh_dispatch.specs.Renewals.{renewals_of}
use Rattle.fh_dispatch.specs.Rulings.{Ruling, ruled}
use Rattle.fh_dispatch.specs.Stores.{others_of}
use Rattle.fh_dispatch.proofs.work.Work.plan.Goals as goal

pub returns-in-Fetch-clause-work : goal.returns-in-Fetch-clause-work
unfolding outcome acting
returns-in-Fetch-clause-work c =
    let part = c.args.self.now.part in
    let others =
    others_with c.args.queues.now.part c.args.blobs.now.part c.args.leases.now.part c.args.timers.now.part in
    subst (λ (a : WorkAsk). IsPlanOf part (outcome part others (ask_of a) c.args.m) c.plan_fetch.result)
    (sym c.in-Fetch.is) (c.plan_fetch.ensures.work others refl)

pub returns-in_ok-ruling-in-Begin-clause-work : goal.returns-in_ok-ruling-in-Begin-clause-work
unfolding outcome acting
returns-in_ok-ruling-in-Begin-clause-work c =
    let part = c.args.self.now.part in
    let m = c.args.m in
    let result = c.plan_ruling.result in
    let others =
    others_with c.args.queues.now.part c.args.blobs.now.part c.args.leases.now.part c.args.timers.now.part in
    let ruled_so = subst (λ (r : Ruling). IsPlanOf part (made_by part (ruled (others_of c.of-stores.result) m r))
    result) c.in_ok-ruling-in-Begin.ensures (c.plan_ruling.ensures.work part) in
    subst (λ (a : WorkAsk). IsPlanOf part (outcome part others (ask_of a) m) result) (sym c.in-Begin.is)
    (subst (λ (o : Others). IsPlanOf part (made_by part (ruled o m (begin_of part o c.in-Begin.function.now c.in-Begin.high c.in-Begin.low m))) result)
    c.of-stores.ensures.parts ruled_so)

pub returns-in_ok-ruling-in-Finish-clause-work : goal.returns-in_ok-ruling-in-Finish-clause-work
unfolding outcome acting
returns-in_ok-ruling-in-Finish-clause-work c =
    let part = c.args.self.now.part in
    let m = c.args.m in
    let result = c.plan_ruling-in-Finish.result in
    let others =
    others_with c.args.queues.now.part c.args.blobs.now.part c.args.leases.now.part c.args.timers.now.part in
    let ruled_so = subst (λ (r : Ruling). IsPlanOf part (made_by part (ruled (others_of c.of-stores-in-Finish.result) m r))
    result) c.in_ok-ruling-in-Finish.ensures (c.plan_ruling-in-Finish.ensures.work part) in
    subst (λ (a : WorkAsk). IsPlanOf part (outcome part others (ask_of a) m) result) (sym c.in-Finish.is)
    (subst (λ (o : Others). IsPlanOf part (made_by part (ruled o m (finish_of part o c.in-Finish.invocation c.in-Finish.outcome.now m))) result)
    c.of-stores-in-Finish.ensures.parts ruled_so)

pub returns-in_ok-ruling-in-Renewals-clause-work : goal.returns-in_ok-ruling-in-Renewals-clause-work
unfolding outcome acting
returns-in_ok-ruling-in-Renewals-clause-work c =
    let part = c.args.self.now.part in
    let m = c.args.m in
    let result = c.plan_ruling-in-Renewals.result in
    let others =
    others_with c.args.queues.now.part c.args.blobs.now.part c.args.leases.now.part c.args.timers.now.part in
    let ruled_so = subst (λ (r : Ruling). IsPlanOf part (made_by part (ruled (others_of c.of-stores-in-Renewals.result) m r))
    result) c.in_ok-ruling-in-Renewals.ensures (c.plan_ruling-in-Renewals.ensures.work part) in
    subst (λ (a : WorkAsk). IsPlanOf part (outcome part others (ask_of a) m) result) (sym c.in-Renewals.is)
    (subst (λ (o : Others). IsPlanOf part (made_by part (ruled o m (renewals_of part o m))) result)
    c.of-stores-in-Renewals.ensures.parts ruled_so)
