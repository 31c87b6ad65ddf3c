-- The plan of an effect that a store refuses.
use Rattle.std.proofs.Common.{Err, refl}
use Rattle.fh_event.specs.declared.faults.PlanFault.{PlanFault}
use Rattle.fh_event.specs.declared.faults.PlanFault.TheVariants.{Rule as OfRule, NoMemory}
use Rattle.fh_dispatch.specs.Faults.{IsRefusedBy, IsPlanOf}
use Rattle.fh_dispatch.specs.Outcome.{made_by}
use Rattle.fh_dispatch.specs.Part.{WorkPart}
use Rattle.fh_dispatch.specs.Rulings.{Acting}

-- the fault of a store is the fault of the plan
pub refused : (fault : PlanFault) (judged : Acting) → IsRefusedBy fault judged
    → (part : WorkPart) → IsPlanOf part (made_by part judged) (Err fault)
refused (OfRule rule) judged is part = rw is refl
refused NoMemory judged is part = is
