-- The rules that refuse what is asked of the queues, in order of their numbers.
use Rattle.std.specs.Prelude.{ℕ, ◌+◌, ◌-◌, ◌==◌, min, nat_le, nat_lt, ◌&&◌, if◌then◌else◌, List, [], ◌∷◌, length, map, Option, Some, None}
use Rattle.fh_base.specs.Limits.{longest_text, seconds_of_week}
use Rattle.fh_base.specs.Names.{is_queue_name}
use Rattle.fh_base.specs.declared.rule.Rule.{Rule}
use Rattle.fh_base.specs.declared.rule.Rule.TheVariants.{BadName, TooLarge, OutOfRange, QueueNotFound, MessageNotFound, PopReceiptMismatch, StoreFull}
use Rattle.fh_event.specs.declared.outcome.Output.{Output}
use Rattle.fh_event.specs.declared.outcome.Output.TheVariants.{Queue, Blob}
use Rattle.fh_queues.specs.declared.held.HeldMessage.{HeldMessage}
use Rattle.fh_queues.specs.declared.row.Message.{Message}
use Rattle.fh_queues.specs.Rows.{live, live_row, row_in}
use Rattle.fh_queues.specs.Part.{QueuePart, has_queue}
use Rattle.fh_queues.specs.Jobs.{count_sent}

-- the first of these rules that is broken
abbrev pub first_broken : List (Option Rule) → Option Rule
first_broken [] = None
first_broken (Some rule ∷ rules) = Some rule
first_broken (None ∷ rules) = first_broken rules

abbrev pub range_rule : ℕ → ℕ → ℕ → Option Rule
range_rule given low high =
    if nat_le low given && nat_le given high then None else Some (OutOfRange given low high)

-- a text has at most 65,536 bytes
abbrev pub text_rule : List ℕ → Option Rule
text_rule text = if nat_lt longest_text (length text) then Some (TooLarge (length text) longest_text) else None

abbrev pub new_text_rule : Option (List ℕ) → Option Rule
new_text_rule None = None
new_text_rule (Some text) = text_rule text

abbrev pub ttl_rule : Option ℕ → Option Rule
ttl_rule None = None
ttl_rule (Some ttl) = range_rule ttl 1 2147483647

-- a message is visible before it expires
abbrev pub most_delay : Option ℕ → ℕ
most_delay None = seconds_of_week
most_delay (Some ttl) = min seconds_of_week (ttl - 1)

abbrev pub delay_rule : ℕ → Option ℕ → Option Rule
delay_rule delay ttl = range_rule delay 0 (most_delay ttl)

abbrev pub queue_rule : QueuePart → List ℕ → Option Rule
queue_rule part queue = if has_queue part.queues queue then None else Some QueueNotFound

abbrev pub receipt_rule : Option Message → ℕ → Option Rule
receipt_rule None receipt = Some MessageNotFound
receipt_rule (Some row) receipt =
    if row.receipt == receipt then None else Some (PopReceiptMismatch row.receipt)

-- at most 100,000 messages are live
abbrev pub store_rule : QueuePart → ℕ → Option Rule
store_rule part m =
    if nat_le 100000 (length (live m part.rows)) then Some (StoreFull (length (live m part.rows))) else None

abbrev pub put_rule : QueuePart → List ℕ → ℕ → Option ℕ → List ℕ → Option Rule
put_rule part queue delay ttl text =
    first_broken (text_rule text ∷ ttl_rule ttl ∷ delay_rule delay ttl ∷ queue_rule part queue ∷ [])

abbrev pub take_rule : QueuePart → List ℕ → ℕ → ℕ → Option Rule
take_rule part queue count hold =
    first_broken (range_rule count 1 32 ∷ range_rule hold 1 seconds_of_week ∷ queue_rule part queue ∷ [])

abbrev pub peek_rule : QueuePart → List ℕ → ℕ → Option Rule
peek_rule part queue count = first_broken (range_rule count 1 32 ∷ queue_rule part queue ∷ [])

-- the message is live in the queue, and has this receipt
abbrev pub message_rule : QueuePart → ℕ → List ℕ → ℕ → ℕ → Option Rule
message_rule part m queue number receipt =
    first_broken (queue_rule part queue ∷ receipt_rule (row_in queue number m part.rows) receipt ∷ [])

abbrev pub update_rule : QueuePart → ℕ → List ℕ → ℕ → ℕ → ℕ → Option (List ℕ) → Option Rule
update_rule part m queue number receipt hold text =
    first_broken
    (new_text_rule text ∷ range_rule hold 0 seconds_of_week ∷ message_rule part m queue number receipt ∷ [])

-- the message is live, and has this receipt
abbrev pub held_rule : QueuePart → ℕ → HeldMessage → Option Rule
held_rule part m message = receipt_rule (live_row message.number m part.rows) message.receipt

abbrev pub release_rule : QueuePart → ℕ → HeldMessage → ℕ → Option Rule
release_rule part m message delay =
    first_broken (held_rule part m message ∷ range_rule delay 0 seconds_of_week ∷ [])

abbrev pub renew_rule : QueuePart → ℕ → List HeldMessage → ℕ → Option Rule
renew_rule part m messages hold =
    first_broken (first_broken (map (held_rule part m) messages) ∷ range_rule hold 1 seconds_of_week ∷ [])

abbrev pub name_rule : List ℕ → Option Rule
name_rule name = if is_queue_name name then None else Some BadName

-- an output to a queue has a queue's name and a message's text
abbrev pub output_rule : Output → Option Rule
output_rule (Queue queue text) = first_broken (name_rule queue ∷ text_rule text ∷ [])
output_rule (Blob container blob text) = None

abbrev pub outputs_rule : List Output → Option Rule
outputs_rule outputs = first_broken (map output_rule outputs)

abbrev pub job_rule : QueuePart → ℕ → Option HeldMessage → Option Rule
job_rule part m None = None
job_rule part m (Some message) = held_rule part m message

-- how many messages are live beside the one that an invocation has, which is live
abbrev pub live_beside : QueuePart → ℕ → Option HeldMessage → ℕ
live_beside part m None = length (live m part.rows)
live_beside part m (Some message) = length (live m part.rows) - 1

-- at most 100,000 messages are live with those that are sent
abbrev pub room_rule : QueuePart → ℕ → Option HeldMessage → List Output → Option Rule
room_rule part m message outputs =
    if nat_lt 100000 (live_beside part m message + count_sent outputs)
    then Some (StoreFull (live_beside part m message))
    else None

abbrev pub complete_rule : QueuePart → ℕ → Option HeldMessage → List Output → Option Rule
complete_rule part m message outputs =
    first_broken (job_rule part m message ∷ outputs_rule outputs ∷ room_rule part m message outputs ∷ [])
