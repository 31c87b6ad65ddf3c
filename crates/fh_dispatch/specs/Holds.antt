-- What a job and an invocation hold: a message by its receipt, and the lease of a function.
use Rattle.std.specs.Prelude.{ℕ, ◌*◌, ◌-◌, ◌==◌, nat_lt, if◌then◌else◌, List, Option, Some, None}
use Rattle.fh_queues.specs.declared.row.Message.{Message as Row}
use Rattle.fh_queues.specs.Part.{QueuePart}
use Rattle.fh_queues.specs.Rows.{live_row}
use Rattle.fh_leases.specs.declared.lease.Lease.{Lease}
use Rattle.fh_leases.specs.Part.{LeasePart, lease_of}
use Rattle.fh_dispatch.specs.Terms.{lease_name}

abbrev pub with_receipt : ℕ → Option Row → Option Row
with_receipt receipt None = None
with_receipt receipt (Some row) = if row.receipt == receipt then Some row else None

-- the live message of this number, where it has this receipt
abbrev pub held_row : QueuePart → ℕ → ℕ → ℕ → Option Row
held_row part number receipt m = with_receipt receipt (live_row number m part.rows)

abbrev pub hidden_at : ℕ → Option Row → Option Row
hidden_at m None = None
hidden_at m (Some row) = if nat_lt m row.visible_at then Some row else None

abbrev pub held_by : ℕ → Option Lease → Option Lease
held_by holder None = None
held_by holder (Some lease) = if lease.holder == holder then Some lease else None

-- the function's lease, where this invocation is its last holder
abbrev pub lease_held : LeasePart → List ℕ → ℕ → Option Lease
lease_held part function invocation = held_by invocation (lease_of (lease_name function) part.leases)

-- the moment from which on a hold may be renewed: five minutes before a message is visible again, and half its
-- seconds before a lease ends; what holds nothing is never due
abbrev pub never : ℕ
never = 18446744073709551614

abbrev pub message_due : Option Row → ℕ
message_due None = never
message_due (Some row) = row.visible_at - 300000

abbrev pub lease_due : Option Lease → ℕ
lease_due None = never
lease_due (Some lease) = lease.until - lease.seconds * 500
