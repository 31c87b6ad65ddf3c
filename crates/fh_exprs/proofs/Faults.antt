-- A fault that is handed on.
use Rattle.std.proofs.Common.{◌≡◌}
use Rattle.std.specs.Prelude.{Result, Err}
use Rattle.fh_exprs.specs.declared.fault.ExprFault.{ExprFault}
use Rattle.fh_exprs.specs.declared.fault.ExprFault.TheVariants.{OpenBrace, NoSetting, NoValue, NotText, SameName, NoMemory}
use Rattle.fh_exprs.specs.Answers.{IsFaultOf}

pub fault_passes : {A B : Type 0} (e : ExprFault) (given : Result A ExprFault) (outer : Result B ExprFault)
    → ((fault : ExprFault) → given ≡ Err fault → outer ≡ Err fault) → IsFaultOf e given → IsFaultOf e outer
fault_passes (OpenBrace at) given outer h is = h (OpenBrace at) is
fault_passes (NoSetting name) given outer h is = h (NoSetting name) is
fault_passes (NoValue name) given outer h is = h (NoValue name) is
fault_passes (NotText name) given outer h is = h (NotText name) is
fault_passes (SameName name) given outer h is = h (SameName name) is
fault_passes NoMemory given outer h is = tt
