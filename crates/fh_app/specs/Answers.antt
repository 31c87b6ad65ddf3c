-- How what a call answers stands to what the definitions give, and rows one behind the other.
use Rattle.std.specs.Prelude.{◌≡◌, ◌≢◌, Result, Ok, Err}
use Rattle.fh_base.specs.Answers.{Gives}
use Rattle.fh_app.specs.declared.fault.AppFault.{AppFault}
use Rattle.fh_app.specs.declared.fault.AppFault.TheVariants.{NoMemory}

-- the fault told is this one, unless memory ran out
abbrev pub Tells : AppFault → AppFault → Type 0
Tells told fault = told ≢ NoMemory → told ≡ fault

-- the answer is what is given, unless memory ran out
abbrev pub Answers : {T : Type 0} → Result T AppFault → Result T AppFault → Type 0
Answers result given = Gives NoMemory result given

-- the answer, seen by `view`, is what is given, unless memory ran out
abbrev pub AnswersBy : {X T : Type 0} → (X → T) → Result X AppFault → Result T AppFault → Type 0
AnswersBy view (Ok x) given = given ≡ Ok (view x)
AnswersBy view (Err told) given = told ≢ NoMemory → given ≡ Err told

-- what comes next is read only where this was
abbrev pub after : {A B : Type 0} → Result A AppFault → (A → Result B AppFault) → Result B AppFault
after (Ok a) next = next a
after (Err fault) next = Err fault
