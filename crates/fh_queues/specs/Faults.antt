-- What a fault of planning or reading says of the outcome.
use Rattle.std.specs.Prelude.{◌≡◌, ⊤, Result, Ok, Err}
use Rattle.fh_base.specs.declared.rule.Rule.{Rule}
use Rattle.fh_event.specs.declared.faults.PlanFault.{PlanFault}
use Rattle.fh_event.specs.declared.faults.PlanFault.TheVariants.{Rule as OfRule, NoMemory}
use Rattle.fh_event.specs.Judging.{Refuses}
use Rattle.fh_queues.specs.Part.{QueuePart}
use Rattle.fh_queues.specs.Outcome.{Outcome}
use Rattle.fh_queues.specs.Edits.{Change, planned}

-- a rule is told exactly as it is; want of memory says nothing
abbrev pub IsFaultOf : {X : Type 0} → PlanFault → Result X Rule → Type 0
IsFaultOf (OfRule rule) outcome = outcome ≡ Err rule
IsFaultOf NoMemory outcome = ⊤

-- the change comes to this outcome of the part, or the fault is its own
abbrev pub IsPlanOf : QueuePart → Outcome → Result Change PlanFault → Type 0
IsPlanOf part outcome (Ok change) = outcome ≡ planned part change
IsPlanOf part outcome (Err (OfRule rule)) = outcome ≡ Refuses rule
IsPlanOf part outcome (Err NoMemory) = ⊤
