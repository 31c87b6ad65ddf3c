-- What an ask and its answer tell of the message of a number.
use Rattle.std.specs.Prelude.{◌≡◌, ℕ, ◌+◌, ◌==◌, Bool, true, false, if◌then◌else◌, List, [], ◌∷◌, Option, Some, None, is_some, ◌⊎◌}
use Rattle.std.specs.List.{list_any}
use Rattle.fh_event.specs.declared.outcome.Output.{Output}
use Rattle.fh_event.specs.declared.outcome.Output.TheVariants as outputs
use Rattle.fh_event.specs.declared.reply.Item.{Item}
use Rattle.fh_queues.specs.declared.row.Message.{Message}
use Rattle.fh_queues.specs.declared.done.QueueDone.{QueueDone}
use Rattle.fh_queues.specs.declared.done.QueueDone.TheVariants as done
use Rattle.fh_queues.specs.declared.done.Ending.{Ending}
use Rattle.fh_queues.specs.declared.done.Ending.TheVariants.{Deleted, Completed, Moved}
use Rattle.fh_queues.specs.Asks.{Ask, Put, Take, Update, Delete, Clear, Release, Renew, Complete, Poison}
use Rattle.fh_queues.specs.Rows.{is_live, row_in, row_of}
use Rattle.fh_queues.specs.Part.{QueuePart}
use Rattle.fh_queues.specs.Outcome.{after, expiry_after}
use Rattle.fh_queues.specs.Receipts.{born}
use Rattle.fh_queues.specs.Seen.{Unborn, Stands}
use Rattle.fh_queues.specs.Goings.{answered, ends, names, newly}

-- the messages that the answer lists as taken
abbrev pub items_in : QueueDone → List Item
items_in (done.Taken items) = items
items_in answer = []

abbrev pub lists : ℕ → List Item → Bool
lists n items = list_any (λ item. item.number == n) items

-- the queue of the message of this number among those that are sent, with numbers from this on
abbrev pub queue_sent : ℕ → ℕ → List Output → List ℕ
queue_sent n number [] = []
queue_sent n number (outputs.Queue queue text ∷ more) = if number == n then queue else queue_sent n (number + 1) more
queue_sent n number (outputs.Blob container blob text ∷ more) = queue_sent n number more

-- the queue that a new message gets
abbrev pub queue_given : ℕ → Ask → QueueDone → List ℕ
queue_given n (Put queue delay ttl text about) answer = queue
queue_given n (Complete invocation message outputs) (done.Completed number receipt count) = queue_sent n number outputs
queue_given n (Poison message queue) answer = queue
queue_given n ask answer = []

-- and its expiry: only a put gives one
abbrev pub expiry_given : ℕ → Ask → Option ℕ
expiry_given m (Put queue delay ttl text about) = expiry_after m ttl
expiry_given m ask = None

-- what is told of a message's hold: nothing, that it is over, or until when the message is held
pub data Hold : Type 0 where
  Untold : Hold
  Freed : Hold
  HeldUntil : ℕ → Hold

abbrev pub held_if : Bool → ℕ → Hold
held_if test until = if test then HeldUntil until else Untold

abbrev pub freed_if : Bool → Hold
freed_if test = if test then Freed else Untold

-- until when the message is held, where it is, behind what is told
abbrev pub held_after : Option ℕ → Hold → Option ℕ
held_after old Untold = old
held_after old Freed = None
held_after old (HeldUntil until) = Some until

-- a take holds what it lists, an update and a renewal hold what they name, and a release frees what it names
abbrev pub hold_given : ℕ → ℕ → Ask → QueueDone → Hold
hold_given n m (Take queue count hold) answer = held_if (lists n (items_in answer)) (after m hold)
hold_given n m (Update queue number receipt hold text) answer = held_if (number == n) (after m hold)
hold_given n m (Release message delay) answer = freed_if (message.number == n)
hold_given n m (Renew messages hold) answer =
    held_if (list_any (λ message. message.number == n) messages) (after m hold)
hold_given n m ask answer = Untold

-- a delete or a completion names the message, or a clear finds it live in its queue
abbrev pub removes : ℕ → ℕ → List Message → Ask → Bool
removes n m rows (Delete queue number receipt) = number == n
removes n m rows (Clear queue) = is_some (row_in queue n m rows)
removes n m rows (Complete invocation message outputs) = names message n
removes n m rows ask = false

-- a poisoning names it
abbrev pub moves : ℕ → Ask → Bool
moves n (Poison message queue) = message.number == n
moves n ask = false

abbrev pub is_removal : Option Ending → Bool
is_removal (Some Deleted) = true
is_removal (Some (Completed invocation)) = true
is_removal ending = false

abbrev pub is_move : Option Ending → Bool
is_move (Some (Moved copy)) = true
is_move ending = false

-- until when the row says that it is held
abbrev pub own_hold : Message → Option ℕ
own_hold row = if row.held then Some row.visible_at else None

-- no new message has the number
pub record IsUntold (part : QueuePart) (n m : ℕ) (ask : Ask) (answer : QueueDone) : Type 0 where
  pub comes : newly part m ask answer n ≡ Unborn
  pub born : born n answer ≡ false

-- the row is a new message
pub record IsNew (part : QueuePart) (n m : ℕ) (ask : Ask) (answer : QueueDone) (row : Message) : Type 0 where
  pub comes : newly part m ask answer n ≡ Stands row
  pub born : born n answer ≡ true
  pub queue : row.queue ≡ queue_given n ask answer
  pub expiry : row.expiry ≡ expiry_given m ask
  pub unheld : own_hold row ≡ None

-- the row goes on as the message: its queue and its expiry stay, and its hold is the newest
pub record IsSame (n m : ℕ) (ask : Ask) (answer : QueueDone) (before later : Message) : Type 0 where
  pub queue : later.queue ≡ before.queue
  pub expiry : later.expiry ≡ before.expiry
  pub hold : own_hold later ≡ held_after (own_hold before) (hold_given n m ask answer)

-- nothing is told of the message of a number
pub record IsPassedOver (part : QueuePart) (n m : ℕ) (ask : Ask) (answer : QueueDone) : Type 0 where
  pub hold : hold_given n m ask answer ≡ Untold
  pub removed : removes n m part.rows ask ≡ false
  pub moved : moves n ask ≡ false

-- only a message with a live row is held, freed, removed or moved, a new one has what was given, and a row goes on or
-- goes as is told
pub record TellsOfMessages (part : QueuePart) (m : ℕ) (ask : Ask) (after : QueuePart)
    (answer : QueueDone) : Type 0 where
  pub none : (n : ℕ) → row_of n part.rows ≡ None → IsPassedOver part n m ask answer
  pub new : (n : ℕ) → IsUntold part n m ask answer ⊎ ((row : Message) × IsNew part n m ask answer row)
  pub same :
      (n : ℕ) (row : Message) → row_of n part.rows ≡ Some row → IsSame n m ask answer row (answered m ask answer row)
  pub removed :
      (n : ℕ) (row : Message) → row_of n part.rows ≡ Some row → is_live m row ≡ true
      → is_removal (ends ask answer row) ≡ removes n m part.rows ask
  pub moved :
      (n : ℕ) (row : Message) → row_of n part.rows ≡ Some row → is_live m row ≡ true
      → is_move (ends ask answer row) ≡ moves n ask
  pub dead :
      (n : ℕ) (row : Message) → row_of n part.rows ≡ Some row → is_live m row ≡ false
      → (removes n m part.rows ask ≡ false) × (moves n ask ≡ false)
