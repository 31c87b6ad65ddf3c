-- What a fault of planning says of the outcome.
use Rattle.std.specs.Prelude.{◌≡◌, ⊤, Result, Ok, Err}
use Rattle.fh_event.specs.declared.faults.PlanFault.{PlanFault}
use Rattle.fh_event.specs.declared.faults.PlanFault.TheVariants.{Rule as OfRule, NoMemory}
use Rattle.fh_event.specs.Judging.{Refuses}
use Rattle.fh_blobs.specs.Part.{BlobPart}
use Rattle.fh_blobs.specs.Outcome.{Outcome}
use Rattle.fh_blobs.specs.Edits.{Change, planned}

-- the change comes to this outcome of the part, or the fault is its own
abbrev pub IsPlanOf : BlobPart → Outcome → Result Change PlanFault → Type 0
IsPlanOf part outcome (Ok change) = outcome ≡ planned part change
IsPlanOf part outcome (Err (OfRule rule)) = outcome ≡ Refuses rule
IsPlanOf part outcome (Err NoMemory) = ⊤
