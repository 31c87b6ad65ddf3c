-- What a fault of planning is for the step.
use Rattle.fh_event.specs.declared.faults.PlanFault.{PlanFault}
use Rattle.fh_event.specs.declared.faults.PlanFault.TheVariants as planned
use Rattle.fh_event.specs.declared.faults.StepFault.{StepFault}
use Rattle.fh_event.specs.declared.faults.StepFault.TheVariants.{Rule, NoMemory}

abbrev pub step_fault_of : PlanFault → StepFault
step_fault_of (planned.Rule rule) = Rule rule
step_fault_of planned.NoMemory = NoMemory
