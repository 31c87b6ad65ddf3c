-- Who changes a message: the law of receipts, of one event.
use Rattle.std.specs.Prelude.{◌≡◌, ℕ, true, false, List, ◌++◌, Some}
use Rattle.fh_queues.specs.declared.row.Message.{Message}
use Rattle.fh_queues.specs.Rows.{is_live, row_of}
use Rattle.fh_queues.specs.Receipts.{Rises}
use Rattle.fh_hub.specs.Replay.{Entry, Event, replay}
use Rattle.fh_hub.specs.Signs.{acts_at, signs}

-- a message that is live and isn't acted on stays as it is, and one that changes has a newer receipt
pub record GuardsMessages (e : Event) : Type 0 where
  pub untouched :
      (row : Message) → row_of row.number e.before.parts.queues.rows ≡ Some row → is_live (acts_at e) row ≡ true
      → (signs e).acts_on row ≡ false → row_of row.number e.after.parts.queues.rows ≡ Some row
  pub rises :
      (n : ℕ) (before later : Message) → row_of n e.before.parts.queues.rows ≡ Some before
      → row_of n e.after.parts.queues.rows ≡ Some later → Rises before later

-- a message that stands before and after these later entries has the same row, or a newer receipt
abbrev pub RisesOver : List Entry → List Entry → Type 0
RisesOver history entries =
    (n : ℕ) (before later : Message) → row_of n (replay history).parts.queues.rows ≡ Some before
    → row_of n (replay (history ++ entries)).parts.queues.rows ≡ Some later → Rises before later

-- the event acts at its own moment
abbrev pub HasOwnMoment : Event → Type 0
HasOwnMoment e = acts_at e ≡ e.moment
