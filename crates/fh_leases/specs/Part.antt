-- The leases' part of the world.
use Rattle.std.specs.Prelude.{ℕ, nat_lt, if◌then◌else◌, List, [], Option, Some, None}
use Rattle.std.specs.Cmp.Lexicographic.{slice_cmp}
use Rattle.std.specs.Ordering.{nat_cmp}
use Rattle.std.specs.declared.cmp.Ordering.{Ordering}
use Rattle.fh_rows.specs.Rows.{row_at}
use Rattle.fh_leases.specs.declared.lease.Lease.{Lease}

-- the leases in order of their names
pub record LeasePart : Type 0 where
  pub leases : List Lease

abbrev pub no_leases : LeasePart
no_leases = record { leases = [] }

-- how a lease stands to a name: names are in order of their bytes
abbrev pub by_name : List ℕ → Lease → Ordering
by_name name lease = slice_cmp nat_cmp lease.name name

-- the lease of this name
abbrev pub lease_of : List ℕ → List Lease → Option Lease
lease_of name leases = row_at (by_name name) leases

-- its holder and its end, where it hasn't expired
abbrev pub holder_of : ℕ → Option Lease → Option (ℕ × ℕ)
holder_of m None = None
holder_of m (Some lease) = if nat_lt m lease.until then Some (lease.holder, lease.until) else None

-- who holds the lease of this name, and until when
abbrev pub holder_at : LeasePart → List ℕ → ℕ → Option (ℕ × ℕ)
holder_at part name m = holder_of m (lease_of name part.leases)
