-- The acts of which each change of the leases is made.
use Rattle.std.specs.Prelude.{ℕ, List, fold}
use Rattle.fh_rows.specs.Rows.{with_row_at, without_row_at}
use Rattle.fh_leases.specs.declared.lease.Lease.{Lease}
use Rattle.fh_leases.specs.declared.act.Act.{Act}
use Rattle.fh_leases.specs.declared.act.Act.TheVariants.{Set, Remove}
use Rattle.fh_leases.specs.Part.{LeasePart, by_name}

-- the lease of this name is this one
abbrev pub with_lease : Lease → LeasePart → LeasePart
with_lease lease part = record { leases = with_row_at (by_name lease.name) lease part.leases }

-- no lease has this name
abbrev pub without_lease : List ℕ → LeasePart → LeasePart
without_lease name part = record { leases = without_row_at (by_name name) part.leases }

unfoldable pub acted : LeasePart → Act → LeasePart
acted part (Set lease) = with_lease lease part
acted part (Remove name) = without_lease name part

abbrev pub by_acts : LeasePart → List Act → LeasePart
by_acts part acts = fold acted part acts
