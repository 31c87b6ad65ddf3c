-- What each ask makes of the queues at a moment, and what it answers.
use Rattle.std.specs.Prelude.{ℕ, ◌+◌, ◌*◌, true, if◌then◌else◌, List, [], ◌∷◌, ◌++◌, length, take, map, filter, Option, Some, None, Result, Ok, Err}
use Rattle.fh_base.specs.declared.rule.Rule.{Rule}
use Rattle.fh_event.specs.declared.outcome.Output.{Output}
use Rattle.fh_event.specs.declared.reply.Item.{Item}
use Rattle.fh_event.specs.Judging.{Judged, Refuses, Quiets, Makes, unless_refused}
use Rattle.fh_queues.specs.declared.held.HeldMessage.{HeldMessage}
use Rattle.fh_event.specs.declared.begun.About.{About}
use Rattle.fh_queues.specs.declared.row.Message.{Message}
use Rattle.fh_queues.specs.declared.done.QueueDone.{QueueDone}
use Rattle.fh_queues.specs.declared.done.QueueDone.TheVariants as done
use Rattle.fh_queues.specs.declared.done.Ending.TheVariants as endings
use Rattle.fh_queues.specs.declared.act.NewMessage.{NewMessage}
use Rattle.fh_queues.specs.declared.act.RowChange.{RowChange}
use Rattle.fh_queues.specs.declared.act.Which.TheVariants.{InQueue, Numbered}
use Rattle.fh_queues.specs.declared.act.Act.{Act}
use Rattle.fh_queues.specs.declared.act.Act.TheVariants.{AddQueue, AddRow, ChangeRow, EndRows}
use Rattle.fh_queues.specs.Rows.{is_of, visible, live, live_row}
use Rattle.fh_queues.specs.Asks.{Ask, Make, Put, Take, Update, Delete, Clear, Release, Renew, Complete, Poison, Sweep}
use Rattle.fh_queues.specs.Part.{QueuePart, has_queue}
use Rattle.fh_queues.specs.Acts.{by_acts, sweep}
use Rattle.fh_queues.specs.Jobs.{release, holding_on, renewed, sends, count_sent, end_job, move, text_of}
use Rattle.fh_queues.specs.Rules.{put_rule, take_rule, peek_rule, queue_rule, message_rule, update_rule, store_rule, held_rule, release_rule, renew_rule, complete_rule}

-- so many seconds after a moment
abbrev pub after : ℕ → ℕ → ℕ
after m seconds = m + seconds * 1000

abbrev pub expiry_after : ℕ → Option ℕ → Option ℕ
expiry_after m None = None
expiry_after m (Some ttl) = Some (after m ttl)

abbrev pub new_message : ℕ → List ℕ → ℕ → Option ℕ → List ℕ → Option About → NewMessage
new_message m queue delay ttl text about = record {
  queue = queue;
  text = text;
  put_at = m;
  visible_at = after m delay;
  expiry = expiry_after m ttl;
  about = about;
}

-- the messages of a list, each taken once more, with the next receipts
abbrev pub taken_items : ℕ → List Message → List Item
taken_items receipt [] = []
taken_items receipt (row ∷ rows) =
    record { number = row.number; receipt = receipt; count = row.count + 1; text = row.text }
    ∷ taken_items (receipt + 1) rows

-- held until then, as it is listed
abbrev pub held_as : ℕ → Item → RowChange
held_as until item = record { visible_at = until; count = Some item.count; held = true; text = None }

abbrev pub hold : ℕ → Item → Act
hold until item = ChangeRow item.number (held_as until item)

-- held until then, with the text where there is one
abbrev pub renewal : ℕ → Option (List ℕ) → RowChange
renewal until text = record { visible_at = until; count = None; held = true; text = text }

-- the acts of an ask, behind the sweep of the rows that aren't live, and its answer
abbrev pub Acting : Type 0
Acting = Judged (List Act) QueueDone

abbrev pub making : QueuePart → List ℕ → Acting
making part queue = if has_queue part.queues queue then Quiets done.There else Makes (AddQueue queue ∷ []) done.Made

abbrev pub putting : QueuePart → ℕ → List ℕ → ℕ → Option ℕ → List ℕ → Option About → Acting
putting part m queue delay ttl text about =
    unless_refused (put_rule part queue delay ttl text)
    (Makes (AddRow (new_message m queue delay ttl text about) ∷ []) (done.Stored part.next_number part.next_receipt))

-- these messages are held until then; where there is none, nothing changes
abbrev pub holding : ℕ → ℕ → List Message → Acting
holding receipt until [] = Quiets done.Empty
holding receipt until (row ∷ rows) =
    let items = taken_items receipt (row ∷ rows) in Makes (map (hold until) items) (done.Taken items)

-- the first visible messages are held
abbrev pub taking : QueuePart → ℕ → List ℕ → ℕ → ℕ → Acting
taking part m queue count seconds =
    unless_refused (take_rule part queue count seconds)
    (holding part.next_receipt (after m seconds) (take count (visible queue m part.rows)))

abbrev pub updating : QueuePart → ℕ → List ℕ → ℕ → ℕ → ℕ → Option (List ℕ) → Acting
updating part m queue number receipt seconds text =
    unless_refused (update_rule part m queue number receipt seconds text)
    (Makes (ChangeRow number (renewal (after m seconds) text) ∷ []) (done.Updated part.next_receipt))

abbrev pub deleting : QueuePart → ℕ → List ℕ → ℕ → ℕ → Acting
deleting part m queue number receipt =
    unless_refused (message_rule part m queue number receipt)
    (Makes (EndRows (Numbered number) endings.Deleted ∷ []) done.Deleted)

abbrev pub rows_of : List ℕ → List Message → List Message
rows_of queue rows = filter (is_of queue) rows

-- all live messages of the queue are deleted; where there is none, nothing changes
abbrev pub clearing : List ℕ → List Message → Acting
clearing queue [] = Quiets done.Empty
clearing queue (row ∷ rows) =
    Makes (EndRows (InQueue queue) endings.Deleted ∷ []) (done.Cleared (length (row ∷ rows)))

abbrev pub emptying : QueuePart → ℕ → List ℕ → Acting
emptying part m queue = unless_refused (queue_rule part queue) (clearing queue (rows_of queue (live m part.rows)))

-- the message is visible again after a delay
abbrev pub releasing : QueuePart → ℕ → HeldMessage → ℕ → Acting
releasing part m message delay =
    unless_refused (release_rule part m message delay)
    (Makes (release (after m delay) message ∷ []) (done.Released part.next_receipt (after m delay)))

-- the messages are held on, each with a new receipt
abbrev pub renewing : QueuePart → ℕ → List HeldMessage → ℕ → Acting
renewing part m messages seconds =
    unless_refused (renew_rule part m messages seconds)
    (Makes (map (holding_on (after m seconds)) messages) (done.Renewed (renewed part.next_receipt messages)))

-- the invocation's message is gone, and its outputs to queues are sent
abbrev pub completing : QueuePart → ℕ → ℕ → Option HeldMessage → List Output → Acting
completing part m invocation message outputs =
    unless_refused (complete_rule part m message outputs)
    (Makes (end_job invocation message ++ sends m outputs)
    (done.Completed part.next_number part.next_receipt (count_sent outputs)))

-- the message is moved into the queue
abbrev pub poisoning : QueuePart → ℕ → HeldMessage → List ℕ → Acting
poisoning part m message queue =
    unless_refused (held_rule part m message)
    (Makes (move part.next_number m message queue (text_of (live_row message.number m part.rows)))
    (done.Poisoned part.next_number part.next_receipt))

unfoldable pub acting : QueuePart → Ask → ℕ → Acting
acting part (Make queue) m = making part queue
acting part (Put queue delay ttl text about) m = putting part m queue delay ttl text about
acting part (Take queue count seconds) m = taking part m queue count seconds
acting part (Update queue number receipt seconds text) m = updating part m queue number receipt seconds text
acting part (Delete queue number receipt) m = deleting part m queue number receipt
acting part (Clear queue) m = emptying part m queue
acting part (Release message delay) m = releasing part m message delay
acting part (Renew messages seconds) m = renewing part m messages seconds
acting part (Complete invocation message outputs) m = completing part m invocation message outputs
acting part (Poison message queue) m = poisoning part m message queue
acting part Sweep m = Makes [] done.Swept

-- the part after an ask, and what is answered
abbrev pub Outcome : Type 0
Outcome = Judged QueuePart QueueDone

-- the rows that aren't live go before the acts
abbrev pub made_by : QueuePart → ℕ → Acting → Outcome
made_by part m (Refuses rule) = Refuses rule
made_by part m (Quiets answer) = Quiets answer
made_by part m (Makes acts answer) = Makes (by_acts part (sweep m ∷ acts)) answer

unfoldable pub outcome : QueuePart → Ask → ℕ → Outcome
outcome part ask m = made_by part m (acting part ask m)

-- what the queues would be too full for: a put beside 100,000 live messages
unfoldable pub too_full : QueuePart → Ask → ℕ → Option Rule
too_full part (Put queue delay ttl text about) m = store_rule part m
too_full part ask m = None

abbrev pub peeked_item : Message → Item
peeked_item row = record { number = row.number; receipt = row.receipt; count = row.count; text = row.text }

abbrev pub listed_unless : Option Rule → List Item → Result (List Item) Rule
listed_unless None items = Ok items
listed_unless (Some rule) items = Err rule

-- the first visible messages as they are
unfoldable pub peeked : QueuePart → List ℕ → ℕ → ℕ → Result (List Item) Rule
peeked part queue count m =
    listed_unless (peek_rule part queue count) (map peeked_item (take count (visible queue m part.rows)))
