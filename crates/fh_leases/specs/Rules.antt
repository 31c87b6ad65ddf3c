-- The rules that refuse what is asked of the leases, in order of their numbers.
use Rattle.std.specs.Prelude.{ℕ, ◌==◌, nat_le, nat_lt, not, ◌&&◌, if◌then◌else◌, List, [], ◌∷◌, Option, Some, None, Result, Ok, Err}
use Rattle.fh_base.specs.declared.rule.Rule.{Rule}
use Rattle.fh_base.specs.declared.rule.Rule.TheVariants.{OutOfRange, LeaseHeld, LeaseMismatch}
use Rattle.fh_leases.specs.declared.lease.Lease.{Lease}
use Rattle.fh_leases.specs.declared.ask.HeldLease.{HeldLease}
use Rattle.fh_leases.specs.Part.{LeasePart, lease_of}

-- the first of these rules that is broken
abbrev pub first_broken : List (Option Rule) → Option Rule
first_broken [] = None
first_broken (Some rule ∷ rules) = Some rule
first_broken (None ∷ rules) = first_broken rules

abbrev pub range_rule : ℕ → ℕ → ℕ → Option Rule
range_rule given low high =
    if nat_le low given && nat_le given high then None else Some (OutOfRange given low high)

-- nobody else has the lease, or it has expired
abbrev pub held_rule : ℕ → Option Lease → ℕ → Option Rule
held_rule m None holder = None
held_rule m (Some lease) holder =
    if not (lease.holder == holder) && nat_lt m lease.until then Some (LeaseHeld lease.holder lease.until) else None

abbrev pub acquire_rule : LeasePart → ℕ → List ℕ → ℕ → ℕ → Option Rule
acquire_rule part m name holder seconds =
    first_broken
    (range_rule holder 1 999999999999999 ∷ range_rule seconds 15 60
    ∷ held_rule m (lease_of name part.leases) holder ∷ [])

-- the lease, whose last holder has to be this one; it may have expired
abbrev pub owned_by : Option Lease → ℕ → Result Lease Rule
owned_by None holder = Err (LeaseMismatch 0)
owned_by (Some lease) holder = if lease.holder == holder then Ok lease else Err (LeaseMismatch lease.holder)

abbrev pub owned : LeasePart → List ℕ → ℕ → Result Lease Rule
owned part name holder = owned_by (lease_of name part.leases) holder

-- a lease and more, or the first rule that refuses one
abbrev pub led_by : Result Lease Rule → Result (List Lease) Rule → Result (List Lease) Rule
led_by (Err rule) more = Err rule
led_by (Ok lease) (Err rule) = Err rule
led_by (Ok lease) (Ok leases) = Ok (lease ∷ leases)

abbrev pub all_owned : LeasePart → List HeldLease → Result (List Lease) Rule
all_owned part [] = Ok []
all_owned part (held ∷ more) = led_by (owned part held.name held.holder) (all_owned part more)
