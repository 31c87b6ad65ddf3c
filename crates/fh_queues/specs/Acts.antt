-- The acts of which each change of the queues is made.
use Rattle.std.specs.Prelude.{ℕ, ◌+◌, ◌-◌, ◌==◌, Bool, false, not, List, [], ◌∷◌, ◌++◌, filter, fold, slice_set, Option, Some, None}
use Rattle.fh_queues.specs.declared.row.Message.{Message}
use Rattle.fh_queues.specs.declared.done.Ending.{Ending}
use Rattle.fh_queues.specs.declared.done.Ending.TheVariants.{Expired}
use Rattle.fh_queues.specs.declared.act.NewMessage.{NewMessage}
use Rattle.fh_queues.specs.declared.act.RowChange.{RowChange}
use Rattle.fh_queues.specs.declared.act.Which.{Which}
use Rattle.fh_queues.specs.declared.act.Which.TheVariants.{Dead, InQueue, Numbered}
use Rattle.fh_queues.specs.declared.act.Act.{Act}
use Rattle.fh_queues.specs.declared.act.Act.TheVariants.{AddQueue, AddRow, ChangeRow, EndRows}
use Rattle.fh_queues.specs.Rows.{is_of, is_dead, with_change}
use Rattle.fh_queues.specs.Order.{with_name}
use Rattle.fh_queues.specs.Part.{QueuePart}

-- the row of a new message, with this number and receipt
abbrev pub numbered : ℕ → ℕ → NewMessage → Message
numbered number receipt new = record {
  number = number;
  queue = new.queue;
  text = new.text;
  put_at = new.put_at;
  visible_at = new.visible_at;
  expiry = new.expiry;
  count = 0;
  receipt = receipt;
  held = false;
  about = new.about;
}

abbrev pub text_or : Option (List ℕ) → List ℕ → List ℕ
text_or None text = text
text_or (Some new) text = new

abbrev pub count_or : Option ℕ → ℕ → ℕ
count_or None count = count
count_or (Some new) count = new

-- a row with another visible time and a new receipt, and the text and the count where there are any
abbrev pub changed : ℕ → RowChange → Message → Message
changed receipt change row = record row {
  text = text_or change.text row.text;
  visible_at = change.visible_at;
  count = count_or change.count row.count;
  receipt = receipt;
  held = change.held;
}

abbrev pub is_one : Which → Message → Bool
is_one (Dead m) row = is_dead m row
is_one (InQueue queue) row = is_of queue row
is_one (Numbered number) row = row.number == number

-- the message of a row has ended so
abbrev pub with_end : Ending → List (Option Ending) → Message → List (Option Ending)
with_end ending ends row = slice_set ends (row.number - 1) (Some ending)

-- the rows of these are gone, and their messages have ended so
abbrev pub with_ends : Which → Ending → QueuePart → QueuePart
with_ends which ending part = record part {
  rows = filter (λ row. not (is_one which row)) part.rows;
  ends = fold (with_end ending) part.ends (filter (is_one which) part.rows);
}

abbrev pub with_queue : List ℕ → QueuePart → QueuePart
with_queue queue part = record part { queues = with_name queue part.queues }

-- a new row has the next number and receipt
abbrev pub with_row : NewMessage → QueuePart → QueuePart
with_row new part = record part {
  rows = part.rows ++ numbered part.next_number part.next_receipt new ∷ [];
  ends = part.ends ++ None ∷ [];
  next_number = part.next_number + 1;
  next_receipt = part.next_receipt + 1;
}

-- a row that changes has the next receipt
abbrev pub with_row_change : ℕ → RowChange → QueuePart → QueuePart
with_row_change number change part = record part {
  rows = with_change number (changed part.next_receipt change) part.rows;
  next_receipt = part.next_receipt + 1;
}

unfoldable pub acted : QueuePart → Act → QueuePart
acted part (AddQueue queue) = with_queue queue part
acted part (AddRow new) = with_row new part
acted part (ChangeRow number change) = with_row_change number change part
acted part (EndRows which ending) = with_ends which ending part

abbrev pub by_acts : QueuePart → List Act → QueuePart
by_acts part acts = fold acted part acts

-- the rows that aren't live are gone, and have expired
abbrev pub sweep : ℕ → Act
sweep m = EndRows (Dead m) Expired
