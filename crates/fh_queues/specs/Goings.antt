-- What an ask that changes something makes of each message.
use Rattle.std.specs.Prelude.{ℕ, ◌+◌, ◌==◌, Bool, false, if◌then◌else◌, List, [], ◌∷◌, Option, Some, None}
use Rattle.fh_event.specs.declared.outcome.Output.{Output}
use Rattle.fh_event.specs.declared.outcome.Output.TheVariants as outputs
use Rattle.fh_event.specs.declared.reply.Item.{Item}
use Rattle.fh_queues.specs.declared.held.HeldMessage.{HeldMessage}
use Rattle.fh_queues.specs.declared.row.Message.{Message}
use Rattle.fh_queues.specs.declared.done.QueueDone.{QueueDone}
use Rattle.fh_queues.specs.declared.done.QueueDone.TheVariants as done
use Rattle.fh_queues.specs.declared.done.Ending.{Ending}
use Rattle.fh_queues.specs.declared.done.Ending.TheVariants.{Deleted, Completed, Moved, Expired}
use Rattle.fh_queues.specs.Asks.{Ask, Put, Take, Update, Delete, Clear, Release, Renew, Complete, Poison}
use Rattle.fh_queues.specs.Rows.{is_of, is_dead, live_row}
use Rattle.fh_queues.specs.Part.{QueuePart}
use Rattle.fh_queues.specs.Acts.{numbered, changed}
use Rattle.fh_queues.specs.Jobs.{freed, held_on, plain_message, text_of}
use Rattle.fh_queues.specs.Outcome.{after, new_message, held_as, renewal}
use Rattle.fh_queues.specs.Receipts.{listed_item}
use Rattle.fh_queues.specs.Seen.{Seen, Unborn, Stands, Ended}

-- held until then, where it was taken
abbrev pub held_by : ℕ → Option Item → Message → Message
held_by until None row = row
held_by until (Some item) row = changed item.receipt (held_as until item) row

-- held until then, once for each message of the list that it is, in order
abbrev pub held_again : ℕ → List HeldMessage → Message → Message
held_again until [] row = row
held_again until (message ∷ messages) row =
    held_again until messages
    (if row.number == message.number then changed message.receipt (held_on until) row else row)

-- the row afterwards: a take holds what it lists, an update and a renewal hold what they name, a release frees what it
-- names, and nothing else changes a row
abbrev pub answered : ℕ → Ask → QueueDone → Message → Message
answered m (Take queue count hold) answer row = held_by (after m hold) (listed_item answer row.number) row
answered m (Update queue number receipt hold text) (done.Updated newest) row =
    if row.number == number then changed newest (renewal (after m hold) text) row else row
answered m (Release message delay) (done.Released newest visible_at) row =
    if row.number == message.number then changed newest (freed visible_at) row else row
answered m (Renew messages hold) (done.Renewed renewed) row = held_again (after m hold) renewed row
answered m ask answer row = row

abbrev pub names : Option HeldMessage → ℕ → Bool
names None n = false
names (Some message) n = message.number == n

abbrev pub ended_if : Bool → Ending → Option Ending
ended_if test ending = if test then Some ending else None

-- how the ask ends the row, if it does: a delete and a clear delete it, a completion completes it, and a poisoning
-- moves it
abbrev pub ends : Ask → QueueDone → Message → Option Ending
ends (Delete queue number receipt) answer row = ended_if (row.number == number) Deleted
ends (Clear queue) answer row = ended_if (is_of queue row) Deleted
ends (Complete invocation message outputs) answer row = ended_if (names message row.number) (Completed invocation)
ends (Poison message queue) (done.Poisoned copy receipt) row = ended_if (message.number == row.number) (Moved copy)
ends ask answer row = None

abbrev pub stands_if : Bool → Message → Seen
stands_if test row = if test then Stands row else Unborn

-- the message of this number among those that are sent, with numbers and receipts from these on
abbrev pub sent : ℕ → ℕ → ℕ → ℕ → List Output → Seen
sent m n number receipt [] = Unborn
sent m n number receipt (outputs.Queue queue text ∷ more) =
    if number == n then Stands (numbered number receipt (plain_message m queue text))
    else sent m n (number + 1) (receipt + 1) more
sent m n number receipt (outputs.Blob container blob text ∷ more) = sent m n number receipt more

-- a put makes a message, a completion one for each output to a queue, and a poisoning a copy of the message
abbrev pub newly : QueuePart → ℕ → Ask → QueueDone → ℕ → Seen
newly part m (Put queue delay ttl text about) (done.Stored number receipt) n =
    stands_if (number == n) (numbered number receipt (new_message m queue delay ttl text about))
newly part m (Complete invocation message outputs) (done.Completed number receipt count) n =
    sent m n number receipt outputs
newly part m (Poison message queue) (done.Poisoned copy receipt) n =
    stands_if (copy == n)
    (numbered copy receipt (plain_message m queue (text_of (live_row message.number m part.rows))))
newly part m ask answer n = Unborn

abbrev pub ended_or : Option Ending → Seen → Seen
ended_or None seen = seen
ended_or (Some ending) seen = Ended ending

-- a message whose row isn't live has expired, one that is live goes as it is asked, and an end stays
abbrev pub goes_on : QueuePart → ℕ → Ask → QueueDone → ℕ → Seen → Seen
goes_on part m ask answer n Unborn = newly part m ask answer n
goes_on part m ask answer n (Ended ending) = Ended ending
goes_on part m ask answer n (Stands row) =
    if is_dead m row then Ended Expired else ended_or (ends ask answer row) (Stands (answered m ask answer row))
