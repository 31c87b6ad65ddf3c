-- How what a call answers stands to what the definitions give.
use Rattle.std.specs.Prelude.{◌≡◌, Result, Ok, Err}
use Rattle.fh_exprs.specs.declared.fault.ExprFault.{ExprFault}
use Rattle.fh_exprs.specs.declared.fault.ExprFault.TheVariants.{OpenBrace, NoSetting, NoValue, NotText, SameName, NoMemory}

-- a fault is told exactly as it is; want of memory says nothing
abbrev pub IsFaultOf : {T : Type 0} → ExprFault → Result T ExprFault → Type 0
IsFaultOf (OpenBrace at) given = given ≡ Err (OpenBrace at)
IsFaultOf (NoSetting name) given = given ≡ Err (NoSetting name)
IsFaultOf (NoValue name) given = given ≡ Err (NoValue name)
IsFaultOf (NotText name) given = given ≡ Err (NotText name)
IsFaultOf (SameName name) given = given ≡ Err (SameName name)
IsFaultOf NoMemory given = Unit {0}

-- the answer, seen by `view`, is what is given, unless memory ran out
abbrev pub Gives : {X T : Type 0} → (X → T) → Result X ExprFault → Result T ExprFault → Type 0
Gives view (Ok x) given = given ≡ Ok (view x)
Gives view (Err e) given = IsFaultOf e given

-- the first that is faulty, or what both make
abbrev pub joined : {A B C : Type 0} → (A → B → C) → Result A ExprFault → Result B ExprFault → Result C ExprFault
joined f (Err e) second = Err e
joined f (Ok a) (Err e) = Err e
joined f (Ok a) (Ok b) = Ok (f a b)

abbrev pub mapped : {A B : Type 0} → (A → B) → Result A ExprFault → Result B ExprFault
mapped f (Ok a) = Ok (f a)
mapped f (Err e) = Err e
