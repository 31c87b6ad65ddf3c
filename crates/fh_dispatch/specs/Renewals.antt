-- Which holds of running invocations go on, and until when.
use Rattle.std.specs.Prelude.{ℕ, ◌+◌, ◌*◌, ◌==◌, nat_le, min, if◌then◌else◌, Bool, true, false, List, [], ◌∷◌, ◌++◌, map, filter, Option, Some, None, is_some}
use Rattle.std.specs.List.{flat_map}
use Rattle.fh_event.specs.declared.reply.RenewalPart.{RenewalPart}
use Rattle.fh_event.specs.declared.reply.RenewalPart.TheVariants as parts
use Rattle.fh_event.specs.declared.reply.Reply.TheVariants as replies
use Rattle.fh_queues.specs.declared.held.HeldMessage.{HeldMessage}
use Rattle.fh_queues.specs.declared.row.Message.{Message as Row}
use Rattle.fh_queues.specs.Asks as queues
use Rattle.fh_queues.specs.Part.{QueuePart}
use Rattle.fh_queues.specs.Outcome.{after}
use Rattle.fh_leases.specs.declared.ask.HeldLease.{HeldLease}
use Rattle.fh_leases.specs.declared.lease.Lease.{Lease}
use Rattle.fh_leases.specs.Asks as leases
use Rattle.fh_dispatch.specs.declared.act.Act.{Act}
use Rattle.fh_dispatch.specs.declared.act.Act.TheVariants.{RenewRunning}
use Rattle.fh_dispatch.specs.declared.ready.Job.{Job}
use Rattle.fh_dispatch.specs.declared.ready.Job.TheVariants.{Message, Timer}
use Rattle.fh_dispatch.specs.declared.running.Running.{Running}
use Rattle.fh_dispatch.specs.Part.{WorkPart, Others}
use Rattle.fh_dispatch.specs.Terms.{terms_in, lease_name}
use Rattle.fh_dispatch.specs.Invocations.{due_by}
use Rattle.fh_dispatch.specs.Holds.{held_row, lease_held, message_due, lease_due}
use Rattle.fh_dispatch.specs.Rulings.{Ruling, Unchanged, Changed}

-- the message that a job holds
abbrev pub row_held : QueuePart → ℕ → Job → Option Row
row_held queues m (Message number receipt) = held_row queues number receipt m
row_held queues m (Timer run) = None

abbrev pub row_if_due : ℕ → Option Row → Option Row
row_if_due m None = None
row_if_due m (Some row) = if nat_le row.visible_at (m + 300000) then Some row else None

abbrev pub lease_if_due : ℕ → Option Lease → Option Lease
lease_if_due m None = None
lease_if_due m (Some lease) = if nat_le lease.until (m + lease.seconds * 500) then Some lease else None

abbrev pub unless_free : ℕ → Option Lease → Option Lease
unless_free seconds lease = if seconds == 0 then None else lease

-- a running invocation with what it holds, and with what of that is due
pub record Due : Type 0 where
  pub run : Running
  pub row : Option Row
  pub lease : Option Lease
  pub due_row : Option Row
  pub due_lease : Option Lease

abbrev pub due_of : Option Row → Option Lease → ℕ → WorkPart → Running → Due
due_of row lease m part run = record {
  run = run;
  row = row;
  lease = lease;
  due_row = row_if_due m row;
  due_lease = lease_if_due m (unless_free (terms_in part run.name).singleton lease);
}

abbrev pub due_at : WorkPart → Others → ℕ → Running → Due
due_at part others m run =
    due_of (row_held others.queues m run.job) (lease_held others.leases run.name run.invocation) m part run

abbrev pub some_of : Bool → Bool → Bool
some_of true other = true
some_of false other = other

abbrev pub is_due : Due → Bool
is_due due = some_of (is_some due.due_row) (is_some due.due_lease)

-- those of which a hold is due, in order of number
abbrev pub due_runs : WorkPart → Others → ℕ → List Due
due_runs part others m =
    filter is_due (map (due_at part others m) (due_by m part.running))

abbrev pub held_in : Option Row → List HeldMessage
held_in None = []
held_in (Some row) = record { number = row.number; receipt = row.receipt } ∷ []

abbrev pub messages_of : List Due → List HeldMessage
messages_of dues = flat_map (λ due. held_in due.due_row) dues

abbrev pub lease_in : Running → Option Lease → List HeldLease
lease_in run None = []
lease_in run (Some lease) = record { name = lease_name run.name; holder = run.invocation } ∷ []

abbrev pub leases_of : List Due → List HeldLease
leases_of dues = flat_map (λ due. lease_in due.run due.due_lease) dues

abbrev pub message_part : ℕ → ℕ → ℕ → Option Row → List RenewalPart
message_part invocation receipt m None = []
message_part invocation receipt m (Some row) = parts.Message invocation receipt (after m 600) ∷ []

abbrev pub lease_part : ℕ → ℕ → Option Lease → List RenewalPart
lease_part invocation m None = []
lease_part invocation m (Some lease) = parts.Lease invocation (after m lease.seconds) ∷ []

-- what of an invocation's holds goes on, the message first and under this receipt
abbrev pub parts_of : ℕ → ℕ → Due → List RenewalPart
parts_of receipt m due =
    message_part due.run.invocation receipt m due.due_row ++ lease_part due.run.invocation m due.due_lease

-- the next receipt behind a message that may be due
abbrev pub receipt_after : ℕ → Option Row → ℕ
receipt_after receipt None = receipt
receipt_after receipt (Some row) = receipt + 1

-- the holds that go on, with receipts from this one on, invocation by invocation
abbrev pub told_from : ℕ → ℕ → List Due → List RenewalPart
told_from receipt m [] = []
told_from receipt m (due ∷ dues) =
    parts_of receipt m due ++ told_from (receipt_after receipt due.due_row) m dues

abbrev pub own_receipt : Job → ℕ
own_receipt (Message number receipt) = receipt
own_receipt (Timer run) = 0

abbrev pub receipt_for : ℕ → Job → Option Row → ℕ
receipt_for receipt job None = own_receipt job
receipt_for receipt job (Some row) = receipt

-- from when on the message, and the lease, may be renewed the next time
abbrev pub row_due_next : ℕ → Option Row → Option Row → ℕ
row_due_next m row None = message_due row
row_due_next m row (Some due) = m + 300000

abbrev pub lease_due_next : ℕ → Option Lease → Option Lease → ℕ
lease_due_next m lease None = lease_due lease
lease_due_next m lease (Some due) = m + due.seconds * 500

abbrev pub due_next : ℕ → Due → ℕ
due_next m due = min (row_due_next m due.row due.due_row) (lease_due_next m due.lease due.due_lease)

-- each invocation keeps the new receipt of its message
abbrev pub renewing_acts : ℕ → ℕ → List Due → List Act
renewing_acts receipt m [] = []
renewing_acts receipt m (due ∷ dues) =
    RenewRunning due.run.invocation (receipt_for receipt due.run.job due.due_row) (due_next m due)
    ∷ renewing_acts (receipt_after receipt due.due_row) m dues

abbrev pub renewing_messages : List HeldMessage → Option queues.Ask
renewing_messages [] = None
renewing_messages (message ∷ messages) = Some (queues.Renew (message ∷ messages) 600)

abbrev pub renewing_leases : List HeldLease → Option leases.Ask
renewing_leases [] = None
renewing_leases (lease ∷ more) = Some (leases.RenewAll (lease ∷ more))

abbrev pub renewing : Others → ℕ → List Due → Ruling
renewing others m [] = Unchanged replies.NothingDue
renewing others m (due ∷ dues) = Changed (record {
  queues = renewing_messages (messages_of (due ∷ dues));
  blobs = None;
  leases = renewing_leases (leases_of (due ∷ dues));
  acts = renewing_acts others.queues.next_receipt m (due ∷ dues);
  told = replies.HoldsRenewed (told_from others.queues.next_receipt m (due ∷ dues));
})

-- all that is due is held on, each message under a new receipt
unfoldable pub renewals_of : WorkPart → Others → ℕ → Ruling
renewals_of part others m = renewing others m (due_runs part others m)
