-- What a reader answers against what reading gives.
use Rattle.std.specs.Prelude.{◌≡◌, Result, Ok, Err, ⊤}
use Rattle.fh_event.specs.declared.faults.EventFault.{EventFault}
use Rattle.fh_event.specs.declared.faults.EventFault.TheVariants.{BadKind, ShortField, LongField, BadField, Trailing, NoMemory}

infixl 10 ◌>>=◌
abbrev pub ◌>>=◌ : {A B : Type 0} → Result A EventFault → (A → Result B EventFault) → Result B EventFault
(Ok x) >>= f = f x
(Err e) >>= f = Err e

-- the fault that was answered is that of the reading; want of memory says nothing of it
abbrev pub Fails : {Y : Type 0} → EventFault → Result Y EventFault → Type 0
Fails (BadKind kind) read = read ≡ Err (BadKind kind)
Fails (ShortField field) read = read ≡ Err (ShortField field)
Fails (LongField field) read = read ≡ Err (LongField field)
Fails (BadField field) read = read ≡ Err (BadField field)
Fails (Trailing left) read = read ≡ Err (Trailing left)
Fails NoMemory read = ⊤

-- what was answered, seen by view, is what reading gives, unless memory ran out
abbrev pub Gives : {X Y : Type 0} → (X → Y) → Result X EventFault → Result Y EventFault → Type 0
Gives view (Ok x) read = read ≡ Ok (view x)
Gives view (Err e) read = Fails e read
