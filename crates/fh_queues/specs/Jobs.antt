-- The acts by which a running invocation holds its message on, lets it go, ends or moves it, and sends messages.
use Rattle.std.specs.Prelude.{ℕ, ◌+◌, true, false, List, [], ◌∷◌, ◌++◌, Option, None, Some}
use Rattle.fh_event.specs.declared.outcome.Output.{Output}
use Rattle.fh_event.specs.declared.outcome.Output.TheVariants.{Queue, Blob}
use Rattle.fh_queues.specs.declared.held.HeldMessage.{HeldMessage}
use Rattle.fh_queues.specs.declared.row.Message.{Message}
use Rattle.fh_queues.specs.declared.done.Ending.TheVariants.{Completed, Moved}
use Rattle.fh_queues.specs.declared.act.NewMessage.{NewMessage}
use Rattle.fh_queues.specs.declared.act.RowChange.{RowChange}
use Rattle.fh_queues.specs.declared.act.Which.TheVariants.{Numbered}
use Rattle.fh_queues.specs.declared.act.Act.{Act}
use Rattle.fh_queues.specs.declared.act.Act.TheVariants.{AddQueue, AddRow, ChangeRow, EndRows}

-- visible from then on, and not held
abbrev pub freed : ℕ → RowChange
freed at = record { visible_at = at; count = None; held = false; text = None }

-- held until then
abbrev pub held_on : ℕ → RowChange
held_on until = record { visible_at = until; count = None; held = true; text = None }

abbrev pub release : ℕ → HeldMessage → Act
release at message = ChangeRow message.number (freed at)

abbrev pub holding_on : ℕ → HeldMessage → Act
holding_on until message = ChangeRow message.number (held_on until)

-- the messages of a list with the next receipts, in order
abbrev pub renewed : ℕ → List HeldMessage → List HeldMessage
renewed receipt [] = []
renewed receipt (message ∷ messages) =
    record { number = message.number; receipt = receipt } ∷ renewed (receipt + 1) messages

-- a message that is visible at once, doesn't expire, and is about nothing
abbrev pub plain_message : ℕ → List ℕ → List ℕ → NewMessage
plain_message m queue text = record {
  queue = queue;
  text = text;
  put_at = m;
  visible_at = m;
  expiry = None;
  about = None;
}

-- such a message more in the queue, which is made where it is missing
abbrev pub send : ℕ → List ℕ → List ℕ → List Act
send m queue text = AddQueue queue ∷ AddRow (plain_message m queue text) ∷ []

-- one for each output to a queue, in order
abbrev pub sends : ℕ → List Output → List Act
sends m [] = []
sends m (Queue queue text ∷ outputs) = send m queue text ++ sends m outputs
sends m (Blob container blob text ∷ outputs) = sends m outputs

-- how many outputs go to queues
abbrev pub count_sent : List Output → ℕ
count_sent [] = 0
count_sent (Queue queue text ∷ outputs) = 1 + count_sent outputs
count_sent (Blob container blob text ∷ outputs) = count_sent outputs

-- the message that an invocation had, if any, is gone, completed by it
abbrev pub end_job : ℕ → Option HeldMessage → List Act
end_job invocation None = []
end_job invocation (Some message) = EndRows (Numbered message.number) (Completed invocation) ∷ []

-- the message is gone, moved to its copy, which is sent
abbrev pub move : ℕ → ℕ → HeldMessage → List ℕ → List ℕ → List Act
move copy m message queue text = EndRows (Numbered message.number) (Moved copy) ∷ send m queue text

-- the text of a row, where there is one
abbrev pub text_of : Option Message → List ℕ
text_of None = []
text_of (Some row) = row.text
