-- Laws of each ask that changes something.
use Rattle.std.specs.Prelude.{◌≡◌, ℕ, ◌+◌, ◌<◌, ◌≤◌, nat_le, nat_lt, ◌&&◌, ◌↔◌, if◌then◌else◌, Bool, true, false, List, [], ◌∷◌, length, Some, None, Ok, IfSome, ⊤}
use Rattle.fh_event.specs.declared.outcome.Output.{Output}
use Rattle.fh_event.specs.declared.outcome.Output.TheVariants as outputs
use Rattle.fh_event.specs.declared.reply.Item.{Item}
use Rattle.fh_event.specs.declared.reply.Place.TheVariants as place
use Rattle.fh_event.specs.Judging.{Makes}
use Rattle.fh_queues.specs.declared.row.Message.{Message}
use Rattle.fh_queues.specs.declared.done.QueueDone.{QueueDone}
use Rattle.fh_queues.specs.declared.done.QueueDone.TheVariants as done
use Rattle.fh_queues.specs.Asks.{Ask, Make, Put, Take, Update, Delete, Clear, Release, Renew, Complete, Poison, Sweep}
use Rattle.fh_queues.specs.Rows.{is_live, is_visible, row_of}
use Rattle.fh_queues.specs.Order.{are_listed}
use Rattle.fh_queues.specs.Part.{QueuePart}
use Rattle.fh_queues.specs.Jobs.{count_sent}
use Rattle.fh_queues.specs.Outcome.{outcome, peeked}
use Rattle.fh_queues.specs.Seen.{Stands, seen}
use Rattle.fh_queues.specs.Places.{place_of}
use Rattle.fh_queues.specs.Whole.{IsWhole}
use Rattle.fh_queues.specs.Receipts.{born, given, listed_item, touches, Rises}
use Rattle.fh_queues.specs.Goings.{goes_on}
use Rattle.fh_queues.specs.Tellings.{items_in}

-- what holds of each ask that changes a whole part, by the part before, the moment, the part after and the answer
abbrev pub OfEachAsk : (QueuePart → ℕ → Ask → QueuePart → QueueDone → Type 0) → Type 0
OfEachAsk Holds =
    (part : QueuePart) (ask : Ask) (m : ℕ) (after : QueuePart) (answer : QueueDone)
    → IsWhole part → outcome part ask m ≡ Makes after answer → Holds part m ask after answer

abbrev pub StaysWhole : QueuePart → ℕ → Ask → QueuePart → QueueDone → Type 0
StaysWhole part m ask after answer = IsWhole after

-- how many numbers and receipts an ask is given at most
abbrev pub most_numbers : Ask → ℕ
most_numbers (Complete invocation message outputs) = count_sent outputs
most_numbers ask = 1

abbrev pub most_receipts : Ask → ℕ
most_receipts (Renew messages hold) = length messages
most_receipts (Complete invocation message outputs) = count_sent outputs
most_receipts ask = 32

-- counters only rise, and by no more than that
pub record MovesLittle (part : QueuePart) (m : ℕ) (ask : Ask) (after : QueuePart) (answer : QueueDone) : Type 0 where
  pub numbers : part.next_number ≤ after.next_number
  pub receipts : part.next_receipt ≤ after.next_receipt
  pub number : after.next_number ≤ part.next_number + most_numbers ask
  pub receipt : after.next_receipt ≤ part.next_receipt + most_receipts ask

-- each message is what the ask and its answer make of it
abbrev pub GoesOnAsAnswered : QueuePart → ℕ → Ask → QueuePart → QueueDone → Type 0
GoesOnAsAnswered part m ask after answer = (n : ℕ) → seen n after ≡ goes_on part m ask answer n (seen n part)

-- the numbers that the answer gives are those from the next one before to the next one after
abbrev pub GivesNumbersInTurn : QueuePart → ℕ → Ask → QueuePart → QueueDone → Type 0
GivesNumbersInTurn part m ask after answer =
    (n : ℕ) → born n answer ≡ (nat_le part.next_number n && nat_lt n after.next_number)

-- so are the receipts, each given once
abbrev pub GivesReceiptsInTurn : QueuePart → ℕ → Ask → QueuePart → QueueDone → Type 0
GivesReceiptsInTurn part m ask after answer =
    (k : ℕ) → given k answer ≡ (if nat_le part.next_receipt k && nat_lt k after.next_receipt then 1 else 0)

-- a live message that the ask doesn't touch stands unchanged
abbrev pub KeepsUntouched : QueuePart → ℕ → Ask → QueuePart → QueueDone → Type 0
KeepsUntouched part m ask after answer =
    (row : Message) → seen row.number part ≡ Stands row → is_live m row ≡ true
    → touches m ask answer row ≡ false → seen row.number after ≡ Stands row

-- a row that isn't the same afterwards has a newer receipt
abbrev pub RaisesReceipts : QueuePart → ℕ → Ask → QueuePart → QueueDone → Type 0
RaisesReceipts part m ask after answer =
    (n : ℕ) (before later : Message) → seen n part ≡ Stands before → seen n after ≡ Stands later
    → Rises before later

-- the item is a visible message of the queue, with its text, taken once more
pub record IsTakenFrom (part : QueuePart) (m : ℕ) (queue : List ℕ) (item : Item) : Type 0 where
  pub row : Message
  pub stands : row_of item.number part.rows ≡ Some row
  pub visible : is_visible queue m row ≡ true
  pub count : item.count ≡ row.count + 1
  pub text : item.text ≡ row.text

-- only a take lists messages, and those were visible in its queue
abbrev pub TakesVisible : QueuePart → ℕ → Ask → QueuePart → QueueDone → Type 0
TakesVisible part m (Take queue count hold) after answer =
    (n : ℕ) (item : Item) → listed_item answer n ≡ Some item → IsTakenFrom part m queue item
TakesVisible part m ask after answer = (n : ℕ) → listed_item answer n ≡ None

-- no text for a queue is longer than a message
abbrev pub AreShort : List Output → Type 0
AreShort [] = ⊤
AreShort (outputs.Queue queue text ∷ more) = (length text ≤ 65536) × AreShort more
AreShort (outputs.Blob container blob text ∷ more) = AreShort more

-- no text of the ask is longer than a message
abbrev pub HasShortTexts : QueuePart → ℕ → Ask → QueuePart → QueueDone → Type 0
HasShortTexts part m (Put queue delay ttl text about) after answer = length text ≤ 65536
HasShortTexts part m (Update queue number receipt hold text) after answer = IfSome text (λ t. length t ≤ 65536)
HasShortTexts part m (Complete invocation message outputs) after answer = AreShort outputs
HasShortTexts part m ask after answer = ⊤

-- a message has a place at every moment exactly where its number was given
abbrev pub IsKnownByNumber : QueuePart → Type 0
IsKnownByNumber part =
    (n m : ℕ) → (place_of part n m ≡ place.Unknown) ↔ ((1 ≤ n) × (n < part.next_number) → ⊥)

-- what a peek lists stands in order of number
abbrev pub ListsInOrder : QueuePart → Type 0
ListsInOrder part =
    (queue : List ℕ) (count m : ℕ) (items : List Item) → peeked part queue count m ≡ Ok items
    → are_listed 0 items ≡ true

-- the answer is one to this ask
abbrev pub answers : Ask → QueueDone → Bool
answers (Make queue) done.Made = true
answers (Put queue delay ttl text about) (done.Stored number receipt) = true
answers (Take queue count hold) (done.Taken items) = true
answers (Update queue number receipt hold text) (done.Updated newest) = true
answers (Delete queue number receipt) done.Deleted = true
answers (Clear queue) (done.Cleared count) = true
answers (Release message delay) (done.Released receipt visible_at) = true
answers (Renew messages hold) (done.Renewed renewed) = true
answers (Complete invocation message outputs) (done.Completed number receipt count) = true
answers (Poison message queue) (done.Poisoned copy receipt) = true
answers Sweep done.Swept = true
answers ask answer = false

-- an ask that changes something has its own answer, whatever the part before
abbrev pub AnswersTheAsk : Type 0
AnswersTheAsk =
    (part : QueuePart) (ask : Ask) (m : ℕ) (after : QueuePart) (answer : QueueDone)
    → outcome part ask m ≡ Makes after answer → answers ask answer ≡ true

-- a take lists no more messages than were asked for
abbrev pub ListsFew : Ask → QueueDone → Type 0
ListsFew (Take queue count hold) answer = length (items_in answer) ≤ count
ListsFew ask answer = ⊤

abbrev pub TakesFew : Type 0
TakesFew =
    (part : QueuePart) (ask : Ask) (m : ℕ) (after : QueuePart) (answer : QueueDone)
    → outcome part ask m ≡ Makes after answer → ListsFew ask answer
