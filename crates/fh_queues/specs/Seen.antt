-- Where the message of a number is.
use Rattle.std.specs.Prelude.{ℕ, Option, Some, None}
use Rattle.fh_queues.specs.declared.row.Message.{Message}
use Rattle.fh_queues.specs.declared.done.Ending.{Ending}
use Rattle.fh_queues.specs.Rows.{row_of}
use Rattle.fh_queues.specs.Part.{QueuePart, end_of}

-- it was never put, it has a row, or it has ended
pub data Seen : Type 0 where
  Unborn : Seen
  Stands : Message → Seen
  Ended : Ending → Seen

abbrev pub seen_by : Option Message → Option Ending → Seen
seen_by None None = Unborn
seen_by None (Some ending) = Ended ending
seen_by (Some row) ending = Stands row

abbrev pub seen : ℕ → QueuePart → Seen
seen n part = seen_by (row_of n part.rows) (end_of n part.ends)
