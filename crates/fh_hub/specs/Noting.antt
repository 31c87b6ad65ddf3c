-- Which blobs were noted, by the events of a trace.
use Rattle.std.specs.Prelude.{◌≡◌, ⊤, ℕ, ◌≤◌, ◌==◌, Bool, true, false, ◌&&◌, ◌↔◌, List, count_by, Some, None}
use Rattle.std.specs.Str.{bytes_eq}
use Rattle.fh_event.specs.declared.command.Command.{Command}
use Rattle.fh_event.specs.declared.command.Command.TheVariants.{Note}
use Rattle.fh_event.specs.declared.reply.Reply.{Reply}
use Rattle.fh_event.specs.declared.reply.Reply.TheVariants.{Noted}
use Rattle.fh_queues.specs.declared.row.Message.{Message}
use Rattle.fh_queues.specs.Rows.{row_of}
use Rattle.fh_blobs.specs.Part.{has_receipt}
use Rattle.fh_dispatch.specs.Notes.{note_text}
use Rattle.fh_dispatch.specs.Queues.{inner_queue}
use Rattle.fh_hub.specs.Stores.{Parts}
use Rattle.fh_hub.specs.Asked.{number_in, version_in, blob_as_it_is}
use Rattle.fh_hub.specs.Replay.{Entry, Event, trace, replay}
use Rattle.fh_hub.specs.Signs.{acts_at}

-- in this world the command notes version v of blob b in container c for the function of number f
abbrev pub notes : ℕ → List ℕ → List ℕ → ℕ → Parts → Command → Bool
notes f c b v parts (Note function container blob) =
    (number_in parts.work function == f)
    && (bytes_eq container c && (bytes_eq blob b && (version_in parts.blobs container blob == v)))
notes f c b v parts command = false

-- how many events noted it
abbrev pub times_noted : ℕ → List ℕ → List ℕ → ℕ → List Event → ℕ
times_noted f c b v events = count_by (λ e. notes f c b v e.before.parts e.command) events

-- the message of this number is new, waits in the function's own queue for good, and tells of the blob as it was
pub record HasItsMessage (e : Event) (function container blob : List ℕ) (number : ℕ) : Type 0 where
  pub row : Message
  pub stands : row_of number e.after.parts.queues.rows ≡ Some row
  pub new : row_of number e.before.parts.queues.rows ≡ None
  pub queue : row.queue ≡ inner_queue (number_in e.before.parts.work function)
  pub text : row.text ≡ note_text function container blob (version_in e.before.parts.blobs container blob)
  pub about : row.about ≡ Some (blob_as_it_is e.before.parts.blobs container blob)
  pub waits : (row.visible_at ≡ acts_at e) × (row.held ≡ false)
  pub lasting : row.expiry ≡ None

-- a note is answered by the number of its message
abbrev pub NotedAs : Event → Command → Reply → Type 0
NotedAs e (Note function container blob) (Noted number) = HasItsMessage e function container blob number
NotedAs e (Note function container blob) reply = ⊥
NotedAs e command reply = ⊤

abbrev pub NotesByMessage : Event → Type 0
NotesByMessage e = NotedAs e e.command e.reply

-- noted once at most, and exactly where the function has the receipt
pub record IsNotedOnce (history : List Entry) (f : ℕ) (c b : List ℕ) (v : ℕ) : Type 0 where
  pub once : times_noted f c b v (trace history) ≤ 1
  pub receipt : (times_noted f c b v (trace history) ≡ 1) ↔ (has_receipt (replay history).parts.blobs f c b v ≡ true)
