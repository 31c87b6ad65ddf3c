-- What a plan, or a fault of planning, says of the outcome.
use Rattle.std.specs.Prelude.{◌≡◌, ⊤, ℕ, Option, Some, None, Result, Ok, Err}
use Rattle.fh_base.specs.declared.rule.Rule.{Rule}
use Rattle.fh_event.specs.declared.faults.PlanFault.{PlanFault}
use Rattle.fh_event.specs.declared.faults.PlanFault.TheVariants.{Rule as OfRule, NoMemory}
use Rattle.fh_event.specs.Judging.{Refuses}
use Rattle.fh_queues.specs.Asks as queues
use Rattle.fh_queues.specs.Edits as queue_edits
use Rattle.fh_queues.specs.Outcome as queue_outcome
use Rattle.fh_queues.specs.Part.{QueuePart}
use Rattle.fh_blobs.specs.Asks as blobs
use Rattle.fh_blobs.specs.Edits as blob_edits
use Rattle.fh_blobs.specs.Outcome as blob_outcome
use Rattle.fh_blobs.specs.Part.{BlobPart}
use Rattle.fh_leases.specs.Asks as leases
use Rattle.fh_leases.specs.Edits as lease_edits
use Rattle.fh_leases.specs.Outcome as lease_outcome
use Rattle.fh_leases.specs.Part.{LeasePart}
use Rattle.fh_timers.specs.declared.ask.TimerAsk.{TimerAsk}
use Rattle.fh_timers.specs.Edits as timer_edits
use Rattle.fh_timers.specs.Outcome as timer_outcome
use Rattle.fh_timers.specs.Part.{TimerPart}
use Rattle.fh_dispatch.specs.declared.change.WorkPlan.{WorkPlan}
use Rattle.fh_dispatch.specs.Part.{WorkPart}
use Rattle.fh_dispatch.specs.Outcome.{Outcome}
use Rattle.fh_dispatch.specs.Rulings.{Acting}
use Rattle.fh_dispatch.specs.Edits.{planned}

-- a rule is told exactly as it is; want of memory says nothing
abbrev pub IsFaultOf : PlanFault → Option Rule → Type 0
IsFaultOf (OfRule rule) broken = broken ≡ Some rule
IsFaultOf NoMemory broken = ⊤

-- the change of the work comes to this outcome of the part, or the fault is its own
abbrev pub IsPlanOf : WorkPart → Outcome → Result WorkPlan PlanFault → Type 0
IsPlanOf part outcome (Ok plan) = outcome ≡ planned part plan.work
IsPlanOf part outcome (Err (OfRule rule)) = outcome ≡ Refuses rule
IsPlanOf part outcome (Err NoMemory) = ⊤

-- a fault is a rule that refuses, and then exactly that one
abbrev pub IsRefusedBy : PlanFault → Acting → Type 0
IsRefusedBy (OfRule rule) judged = judged ≡ Refuses rule
IsRefusedBy NoMemory judged = ⊤

-- the change of the queues is what they make of the ask, and there is none where nothing is asked of them
abbrev pub IsQueuesPlanOf : QueuePart → Option queues.Ask → ℕ → Option queue_edits.Change → Type 0
IsQueuesPlanOf part None m change = change ≡ None
IsQueuesPlanOf part (Some ask) m None = ⊥
IsQueuesPlanOf part (Some ask) m (Some change) =
    queue_outcome.outcome part ask m ≡ queue_edits.planned part change

-- so it is with the change of the blobs, of the leases
abbrev pub IsBlobsPlanOf : BlobPart → Option blobs.Ask → ℕ → Option blob_edits.Change → Type 0
IsBlobsPlanOf part None m change = change ≡ None
IsBlobsPlanOf part (Some ask) m None = ⊥
IsBlobsPlanOf part (Some ask) m (Some change) = blob_outcome.outcome part ask m ≡ blob_edits.planned part change

abbrev pub IsLeasesPlanOf : LeasePart → Option leases.Ask → ℕ → Option lease_edits.Change → Type 0
IsLeasesPlanOf part None m change = change ≡ None
IsLeasesPlanOf part (Some ask) m None = ⊥
IsLeasesPlanOf part (Some ask) m (Some change) =
    lease_outcome.outcome part ask m ≡ lease_edits.planned part change

-- and with the change of the timers
abbrev pub IsTimersPlanOf : TimerPart → Option TimerAsk → ℕ → Option timer_edits.Change → Type 0
IsTimersPlanOf part None m change = change ≡ None
IsTimersPlanOf part (Some ask) m None = ⊥
IsTimersPlanOf part (Some ask) m (Some change) =
    timer_outcome.outcome part ask m ≡ timer_edits.planned part change
