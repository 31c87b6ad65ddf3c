-- What an event says of messages, in one record: what it doesn't say is none.
use Rattle.std.specs.Prelude.{ℕ, ◌==◌, Bool, false, ◌&&◌, if◌then◌else◌, List, [], count_by, Option, Some, None, is_some}
use Rattle.std.specs.List.{list_any}
use Rattle.fh_event.specs.declared.command.Command.{Command}
use Rattle.fh_event.specs.declared.command.Command.TheVariants.{Put, Take, Update, Delete, Clear, Note, Fetch}
use Rattle.fh_event.specs.declared.reply.Reply.{Reply}
use Rattle.fh_event.specs.declared.reply.Reply.TheVariants.{Stored, Taken, Updated, Noted, Fetched}
use Rattle.fh_queues.specs.declared.row.Message.{Message}
use Rattle.fh_queues.specs.Rows.{is_of, is_visible, row_in, row_of}
use Rattle.fh_queues.specs.Outcome.{after, expiry_after}
use Rattle.fh_queues.specs.Receipts.{is_named}
use Rattle.fh_queues.specs.Tellings.{Hold, Untold, held_if}
use Rattle.fh_dispatch.specs.declared.trigger.Trigger.{Trigger}
use Rattle.fh_dispatch.specs.Part.{WorkPart}
use Rattle.fh_dispatch.specs.Queues.{inner_queue, trigger_of}
use Rattle.fh_hub.specs.Stores.{Parts}
use Rattle.fh_hub.specs.Asked.{number_in}
use Rattle.fh_hub.specs.World.{effective_moment}
use Rattle.fh_hub.specs.Replay.{Event}

pub record Signs : Type 0 where
  -- the queue and the expiry of the message that is born
  pub queue : List ℕ
  pub expiry : Option ℕ
  -- what is told of the hold of the message of a number
  pub hold : ℕ → Hold
  -- the message of a number is removed by who asks for it
  pub removes : ℕ → Bool
  -- who asks may change the message of a row
  pub acts_on : Message → Bool

abbrev pub no_signs : Signs
no_signs = record { queue = []; expiry = None; hold = λ n. Untold; removes = λ n. false; acts_on = λ row. false }

-- the reply lists the message of this number as taken, or as fetched
abbrev pub lists : ℕ → Reply → Bool
lists n (Taken items) = list_any (λ item. item.number == n) items
lists n (Fetched jobs) = list_any (λ job. job.number == n) jobs
lists n reply = false

-- the queue of a function that works on messages
abbrev pub queue_found : Option Trigger → List ℕ
queue_found None = []
queue_found (Some trigger) = trigger.queue

abbrev pub queue_in : WorkPart → List ℕ → List ℕ
queue_in part function = queue_found (trigger_of function part.functions)

-- a put gives its queue and its expiry, and a note the queue of its function, a take and a fetch hold what they list, an
-- update holds what it names, a delete removes what it names with its newest receipt, and a clear removes the live rows of its queue
abbrev pub signs_of : Parts → ℕ → Command → Reply → Signs
signs_of parts m (Put queue delay ttl text) reply = record no_signs { queue = queue; expiry = expiry_after m ttl }
signs_of parts m (Note function container blob) reply = record no_signs {
  queue = inner_queue (number_in parts.work function);
}
signs_of parts m (Take queue count hold) reply = record no_signs {
  hold = λ n. held_if (lists n reply) (after m hold);
  acts_on = λ row. is_visible queue m row && lists row.number reply;
}
signs_of parts m (Fetch function) reply = record no_signs {
  hold = λ n. held_if (lists n reply) (after m 600);
  acts_on = λ row. is_visible (queue_in parts.work function) m row && lists row.number reply;
}
signs_of parts m (Update queue number receipt hold text) reply = record no_signs {
  hold = λ n. held_if (number == n) (after m hold);
  acts_on = λ row. is_named queue number receipt row;
}
signs_of parts m (Delete queue number receipt) reply = record no_signs {
  removes = λ n. number == n;
  acts_on = λ row. is_named queue number receipt row;
}
signs_of parts m (Clear queue) reply = record no_signs {
  removes = λ n. is_some (row_in queue n m parts.queues.rows);
  acts_on = λ row. is_of queue row;
}
signs_of parts m command reply = no_signs

-- the moment at which the event's command acted
abbrev pub acts_at : Event → ℕ
acts_at e = effective_moment e.before e.moment

abbrev pub signs : Event → Signs
signs e = signs_of e.before.parts (acts_at e) e.command e.reply

-- a row has this receipt
abbrev pub has_receipt : ℕ → Option Message → ℕ
has_receipt k None = 0
has_receipt k (Some row) = if row.receipt == k then 1 else 0

-- how often a reply gives out this receipt; that to a note doesn't tell it, but the row of its message has it
abbrev pub gives_by : ℕ → List Message → Reply → ℕ
gives_by k rows (Stored number receipt) = if receipt == k then 1 else 0
gives_by k rows (Taken items) = count_by (λ item. item.receipt == k) items
gives_by k rows (Fetched jobs) = count_by (λ job. job.receipt == k) jobs
gives_by k rows (Updated receipt) = if receipt == k then 1 else 0
gives_by k rows (Noted number) = has_receipt k (row_of number rows)
gives_by k rows reply = 0

-- how often the event gives out this receipt
abbrev pub gives : ℕ → Event → ℕ
gives k e = gives_by k e.after.parts.queues.rows e.reply

-- the reply gives a new message this number
abbrev pub bears : ℕ → Reply → Bool
bears n (Stored number receipt) = number == n
bears n (Noted number) = number == n
bears n reply = false
