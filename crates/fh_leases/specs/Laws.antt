-- What holds of each ask that is accepted, and who holds a lease.
use Rattle.std.specs.Prelude.{◌≡◌, ℕ, ◌<◌, ◌≤◌, ◌==◌, Bool, true, false, ◌&&◌, ◌||◌, ◌⊎◌, ◌↔◌, if◌then◌else◌, List, [], ◌∷◌, Option, Some, None, IfSome}
use Rattle.std.specs.List.{list_any}
use Rattle.std.specs.Str.{bytes_eq}
use Rattle.fh_event.specs.Judging.{Makes}
use Rattle.fh_leases.specs.declared.lease.Lease.{Lease}
use Rattle.fh_leases.specs.declared.ask.HeldLease.{HeldLease}
use Rattle.fh_leases.specs.declared.done.LeaseDone.{LeaseDone}
use Rattle.fh_leases.specs.declared.done.LeaseDone.TheVariants as done
use Rattle.fh_leases.specs.Part.{LeasePart, lease_of, holder_at}
use Rattle.fh_leases.specs.Asks.{Ask, Acquire, Renew, Release, RenewAll}
use Rattle.fh_leases.specs.Outcome.{outcome}

-- what holds of each ask, by the part before, the moment, the part after and the answer
abbrev pub OfEachAsk : (LeasePart → ℕ → Ask → LeasePart → LeaseDone → Type 0) → Type 0
OfEachAsk Holds =
    (part : LeasePart) (ask : Ask) (m : ℕ) (after : LeasePart) (answer : LeaseDone)
    → outcome part ask m ≡ Makes after answer → Holds part m ask after answer

abbrev pub is_of : List ℕ → ℕ → List ℕ → ℕ → Bool
is_of name holder x h = bytes_eq name x && (holder == h)

-- the first of these that is lease x with holder h goes on until its moment
abbrev pub granted_in : List ℕ → ℕ → List HeldLease → List ℕ → Option ℕ
granted_in x h [] untils = None
granted_in x h (one ∷ held) [] = None
granted_in x h (one ∷ held) (until ∷ untils) =
    if is_of one.name one.holder x h then Some until else granted_in x h held untils

-- until when the ask grants lease x to holder h, where it does
abbrev pub granted : List ℕ → ℕ → Ask → LeaseDone → Option ℕ
granted x h (Acquire name holder seconds) (done.Acquired until) =
    if is_of name holder x h then Some until else None
granted x h (Renew name holder) (done.Renewed until) = if is_of name holder x h then Some until else None
granted x h (RenewAll held) (done.AllRenewed untils) = granted_in x h held untils
granted x h ask answer = None

-- the ask takes lease x from holder h
abbrev pub taken : List ℕ → ℕ → Ask → Bool
taken x h (Release name holder) = is_of name holder x h
taken x h ask = false

-- the ask names lease x
abbrev pub is_named : List ℕ → Ask → Bool
is_named x (Acquire name holder seconds) = bytes_eq name x
is_named x (Renew name holder) = bytes_eq name x
is_named x (Release name holder) = bytes_eq name x
is_named x (RenewAll held) = list_any (λ one. bytes_eq one.name x) held
is_named x ask = false

-- until when h has the lease, where it is the last holder
abbrev pub own_end : ℕ → Option Lease → Option ℕ
own_end h None = None
own_end h (Some lease) = if lease.holder == h then Some lease.until else None

abbrev pub end_of : LeasePart → List ℕ → ℕ → Option ℕ
end_of part x h = own_end h (lease_of x part.leases)

-- it is as before, or what was before is over
abbrev pub KeepsUnlessOver : ℕ → Option ℕ → Option ℕ → Type 0
KeepsUnlessOver m before after = (after ≡ before) ⊎ ((after ≡ None) × IfSome before (λ end. end ≤ m))

-- whom the ask grants a lease has it until then, from whom it takes one hasn't it, and nobody else's holding
-- changes before its end
pub record TellsOfHolders (part : LeasePart) (m : ℕ) (ask : Ask) (after : LeasePart) (answer : LeaseDone) : Type 0 where
  pub grants : (x : List ℕ) (h end : ℕ) → granted x h ask answer ≡ Some end → end_of after x h ≡ Some end
  pub takes : (x : List ℕ) (h : ℕ) → taken x h ask ≡ true → end_of after x h ≡ None
  pub others :
      (x : List ℕ) (h : ℕ) → granted x h ask answer ≡ None → taken x h ask ≡ false
      → KeepsUnlessOver m (end_of part x h) (end_of after x h)

-- a lease that the ask doesn't name stays as it is
abbrev pub KeepsUnnamed : LeasePart → ℕ → Ask → LeasePart → LeaseDone → Type 0
KeepsUnnamed part m ask after answer =
    (x : List ℕ) → is_named x ask ≡ false → lease_of x after.leases ≡ lease_of x part.leases

-- h is told as the holder exactly where it has the lease until a later moment
abbrev pub IsToldOfHolder : LeasePart → Type 0
IsToldOfHolder part =
    (x : List ℕ) (h end m : ℕ)
    → (holder_at part x m ≡ Some (h, end)) ↔ ((end_of part x h ≡ Some end) × (m < end))

-- two that have the lease are one
abbrev pub HasOneHolder : LeasePart → Type 0
HasOneHolder part =
    (x : List ℕ) (h other end later : ℕ)
    → end_of part x h ≡ Some end → end_of part x other ≡ Some later → h ≡ other
