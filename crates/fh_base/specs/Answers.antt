-- What a call answers against what its definition gives.
use Rattle.std.specs.Prelude.{◌≡◌, ◌≢◌, Result, Ok, Err}

-- the answer is what the definition gives, unless it is this fault, want of memory, which says nothing
abbrev pub Gives : {T E : Type 0} → E → Result T E → Result T E → Type 0
Gives memory (Ok x) given = given ≡ Ok x
Gives memory (Err fault) given = fault ≢ memory → given ≡ Err fault
