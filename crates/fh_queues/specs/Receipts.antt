-- Numbers and receipts that are given out, and the receipt that a change needs.
use Rattle.std.specs.Prelude.{◌≡◌, ℕ, ◌+◌, ◌<◌, ◌==◌, nat_le, nat_lt, Bool, false, ◌&&◌, ◌⊎◌, if◌then◌else◌, List, find, count_by, Option, None, Some, is_some}
use Rattle.std.specs.List.{list_any}
use Rattle.fh_event.specs.declared.reply.Item.{Item}
use Rattle.fh_queues.specs.declared.held.HeldMessage.{HeldMessage}
use Rattle.fh_queues.specs.declared.row.Message.{Message}
use Rattle.fh_queues.specs.declared.done.QueueDone.{QueueDone}
use Rattle.fh_queues.specs.declared.done.QueueDone.TheVariants as done
use Rattle.fh_queues.specs.Asks.{Ask, Take, Update, Delete, Clear, Release, Renew, Complete, Poison}
use Rattle.fh_queues.specs.Rows.{is_of, is_visible}

-- the number is one of so many, from the first on
abbrev pub is_among : ℕ → ℕ → ℕ → Bool
is_among first count n = nat_le first n && nat_lt n (first + count)

-- a message gets this number by the answer
abbrev pub born : ℕ → QueueDone → Bool
born n (done.Stored number receipt) = number == n
born n (done.Completed number receipt count) = is_among number count n
born n (done.Poisoned copy receipt) = copy == n
born n answer = false

-- how often the answer gives out this receipt
abbrev pub given : ℕ → QueueDone → ℕ
given k (done.Stored number receipt) = if receipt == k then 1 else 0
given k (done.Taken items) = count_by (λ item. item.receipt == k) items
given k (done.Updated receipt) = if receipt == k then 1 else 0
given k (done.Released receipt visible_at) = if receipt == k then 1 else 0
given k (done.Renewed messages) = count_by (λ message. message.receipt == k) messages
given k (done.Completed number receipt count) = if is_among receipt count k then 1 else 0
given k (done.Poisoned copy receipt) = if receipt == k then 1 else 0
given k answer = 0

-- the item of this number
abbrev pub item_of : ℕ → List Item → Option Item
item_of n items = find (λ item. item.number == n) items

-- the item of this number that the answer lists as taken
abbrev pub listed_item : QueueDone → ℕ → Option Item
listed_item (done.Taken items) n = item_of n items
listed_item answer n = None

-- its queue, its number and its newest receipt
abbrev pub is_named : List ℕ → ℕ → ℕ → Message → Bool
is_named queue number receipt row = is_of queue row && (row.number == number) && (row.receipt == receipt)

-- its number and its newest receipt
abbrev pub is_held_as : HeldMessage → Message → Bool
is_held_as message row = (row.number == message.number) && (row.receipt == message.receipt)

abbrev pub is_job_of : Option HeldMessage → Message → Bool
is_job_of None row = false
is_job_of (Some message) row = is_held_as message row

-- the ask acts on the message: a take of its queue that lists it while it is visible, a clear of its queue, or
-- any other one that names it with its newest receipt
abbrev pub touches : ℕ → Ask → QueueDone → Message → Bool
touches m (Take queue count hold) answer row = is_visible queue m row && is_some (listed_item answer row.number)
touches m (Update queue number receipt hold text) answer row = is_named queue number receipt row
touches m (Delete queue number receipt) answer row = is_named queue number receipt row
touches m (Clear queue) answer row = is_of queue row
touches m (Release message delay) answer row = is_held_as message row
touches m (Renew messages hold) answer row = list_any (λ message. is_held_as message row) messages
touches m (Complete invocation message outputs) answer row = is_job_of message row
touches m (Poison message queue) answer row = is_held_as message row
touches m ask answer row = false

-- the same row, or one with a newer receipt
abbrev pub Rises : Message → Message → Type 0
Rises before after = (after ≡ before) ⊎ (before.receipt < after.receipt)
