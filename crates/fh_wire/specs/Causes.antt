-- What the count of a source or a sink says of an answer, and what an answer may be instead of the defined one.
use Rattle.std.specs.Prelude.{◌≡◌, ◌≢◌, ◌⊎◌, ℕ, Bool, true, Result, Err, MatchResult}
use Rattle.fh_base.specs.Faults.{Rose}
use Rattle.fh_wire.specs.declared.fault.WireFault.{WireFault}
use Rattle.fh_wire.specs.declared.fault.WireFault.TheVariants.{ReadFault, WriteFault, NoMemory}

-- no call failed: the count is the same, and an object that tells that none fails goes on telling so
pub record Passes (before now : ℕ) (was is : Bool) : Type 0 where
  pub count : now ≡ before
  pub sure : was ≡ true → is ≡ true

-- a call failed: the count rose, and the object didn't tell that none fails
pub record Fails (before now : ℕ) (was : Bool) : Type 0 where
  pub count : Rose before now
  pub unsure : was ≢ true

-- a read failed exactly where the fault is ReadFault
abbrev pub IsReadCause : ℕ → ℕ → Bool → Bool → WireFault → Type 0
IsReadCause before now was is ReadFault = Fails before now was
IsReadCause before now was is fault = Passes before now was is

-- a write failed exactly where the fault is WriteFault
abbrev pub IsWriteCause : ℕ → ℕ → Bool → Bool → WireFault → Type 0
IsWriteCause before now was is WriteFault = Fails before now was
IsWriteCause before now was is fault = Passes before now was is

-- an answer of a call that reads
abbrev pub HasReadCause : {A : Type 0} → ℕ → ℕ → Bool → Bool → Result A WireFault → Type 0
HasReadCause before now was is r =
    MatchResult r (λ _. Passes before now was is) (IsReadCause before now was is)

-- an answer of a call that writes
abbrev pub HasWriteCause : {A : Type 0} → ℕ → ℕ → Bool → Bool → Result A WireFault → Type 0
HasWriteCause before now was is r =
    MatchResult r (λ _. Passes before now was is) (IsWriteCause before now was is)

-- a read failed, or memory was refused
abbrev pub IsFree : WireFault → Type 0
IsFree fault = (fault ≡ ReadFault) ⊎ (fault ≡ NoMemory)

-- this is the answer, unless memory was refused
abbrev pub UnlessNoMemory : {A : Type 0} → Result A WireFault → Type 0 → Type 0
UnlessNoMemory r P = (r ≡ Err NoMemory) ⊎ P

-- this is the answer, unless memory was refused or a read failed
abbrev pub UnlessUnread : {A : Type 0} → Result A WireFault → Type 0 → Type 0
UnlessUnread r P = (r ≡ Err ReadFault) ⊎ UnlessNoMemory r P
