-- How what a call answers stands to what the definitions give.
use Rattle.std.specs.Prelude.{Result, Ok, Err}
use Rattle.fh_base.specs.Answers.{Gives}
use Rattle.fh_front.specs.declared.fault.FrontFault.{FrontFault}
use Rattle.fh_front.specs.declared.fault.FrontFault.TheVariants.{NoMemory}

-- the answer is what is given, unless memory ran out
abbrev pub Answers : {T : Type 0} → Result T FrontFault → Result T FrontFault → Type 0
Answers result given = Gives NoMemory result given

-- the rest is read only where this was
infixl 10 ◌>>=◌
abbrev pub ◌>>=◌ : {A B : Type 0} → Result A FrontFault → (A → Result B FrontFault) → Result B FrontFault
(Ok x) >>= f = f x
(Err fault) >>= f = Err fault
