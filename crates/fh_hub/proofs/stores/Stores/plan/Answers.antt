use Rattle.std.proofs.Common.{rules, ◌∙◌, ap, sym}
use Rattle.fh_hub.specs.StoreEdits.{parts_of, asks_of, both_planned}
use Rattle.fh_hub.proofs.Outcomes.{fault_of_all, plan_of_all}
use Rattle.fh_hub.proofs.stores.Stores.plan.Goals as goal

pub returns-in-Ok-clause-plan : goal.returns-in-Ok-clause-plan
returns-in-Ok-clause-plan c =
    plan_of_all (parts_of c.args.self.now) (asks_of c.args.asks.now)
    c.args.m c.in_ok-work.field-0.work c.plan_timers-timers.result c.plan_queues-queues.result c.plan_blobs-blobs.result
    c.plan_leases-leases.result
    (search rules) (search rules) (search rules) (search rules) (search rules)
    c.in-Ok.timers-1-given.0.0
    (ap (both_planned c.plan_timers-timers.result)
    (sym (c.both_planned-others.ensures ∙ ap (both_planned c.plan_queues-queues.result)
    c.both_planned-held.ensures)) ∙ sym c.both_planned.ensures ∙ search rules)

pub returns-in-Err : goal.returns-in-Err
returns-in-Err c = record {
  plan = fault_of_all (parts_of c.args.self.now) (asks_of c.args.asks.now)
      c.args.m c.in_ok-work.work c.plan_timers-timers.result c.plan_queues-queues.result c.plan_blobs-blobs.result
      c.plan_leases-leases.result
      (search rules) (search rules) (search rules) (search rules) (search rules) c.in-Err.fault
      (ap (both_planned c.plan_timers-timers.result)
      (sym (c.both_planned-others.ensures ∙ ap (both_planned c.plan_queues-queues.result)
      c.both_planned-held.ensures)) ∙ sym c.both_planned.ensures ∙ c.in-Err.is);
  masks = tt;
}
